-- A whole recording, by the way through the code: what opening, the section and closing have answered.
-- Assumes nothing.
use Prim.Native.Nat.{ℕ, ◌-◌, ◌≤◌, ◌<◌}
use native.Mathlib.Omega.{arith}
use mathlib.Core.Path.{◌≡◌, sym, ap, ◌∙◌}
use mathlib.Core.Bool.{true, false, cond}
use mathlib.Core.List.{List, ◌++◌}
use lib.ListN.{length, take, drop, length-drop}
use lib.Seq.{take_all}
use borrow.Author.Tests.{lt-ltb, le-ltb, eqb-true}
use lib.Dec.{eqb}
use Rattle.header.specs.Bytes.{edition_for}
use Rattle.laws.specs.Lent.{written}
use Rattle.laws.proofs.Lent.{refuses}
use Rattle.answers.specs.declared.Verdict.{Verdict}
use Rattle.answers.specs.Answer.{verdict_bytes, room_for, Reported, ReportedBoth}
use Rattle.judge.specs.Answers.{OpenAnswer as Opened, SectionAnswer as Taken, CloseAnswer as Closed}
use Rattle.judge.specs.Calls.{open_of, section_of, close_of}
use Rattle.sections.specs.Recording.{whole_refusal, needed, judge_code}
use Rattle.sections.proofs.Recordings.{not_opened, not_taken, closed-number, closed-verdict, closed-second}
use Rattle.firmware.specs.Calls.{answer_bytes, Judge, Judged}

module _ (bs : List ℕ) (end : ℕ) where
  module _ (o : Opened) (os : o ≡ open_of (take 6 bs)) where
    pub open-refuses : (o.refused ≡ 0 → ⊥) → o.refused ≡ whole_refusal bs end
    open-refuses n = ap (λ (x : Opened). x.refused) os ∙ not_opened bs end (λ z. n (ap (λ (x : Opened). x.refused) os ∙ z))

    module _ (z : o.refused ≡ 0) (t : Taken) (ts : t ≡ section_of o.state (take (length bs - 6) (drop 6 bs))) where
      opened : (open_of (take 6 bs)).refused ≡ 0
      opened = sym (ap (λ (x : Opened). x.refused) os) ∙ z

      section-is : t ≡ section_of (open_of (take 6 bs)).state (drop 6 bs)
      section-is =
          ts ∙ ap (section_of o.state) (take_all (length bs - 6) (drop 6 bs) (omega (arith, length-drop 6 bs)))
          ∙ ap (λ (x : Opened). section_of x.state (drop 6 bs)) os

      pub section-refuses : (t.refused ≡ 0 → ⊥) → t.refused ≡ whole_refusal bs end
      section-refuses n =
          ap (λ (x : Taken). x.refused) section-is ∙ not_taken bs end opened (λ q. n (ap (λ (x : Taken). x.refused) section-is ∙ q))

      module _ (q : t.refused ≡ 0) (c : Closed) (cs : c ≡ close_of t.state end) where
        taken : (section_of (open_of (take 6 bs)).state (drop 6 bs)).refused ≡ 0
        taken = sym (ap (λ (x : Taken). x.refused) section-is) ∙ q

        close-is : c ≡ close_of (section_of (open_of (take 6 bs)).state (drop 6 bs)).state end
        close-is = cs ∙ ap (λ (x : Taken). close_of x.state end) section-is

        pub closes : c.refused ≡ whole_refusal bs end
        closes = ap (λ (x : Closed). x.refused) close-is ∙ closed-number bs end opened taken

        pub by-verdict : (v w : Verdict) → c.refused ≡ 0 → v ≡ c.end.verdict → w ≡ c.second.verdict → Judged bs end 0 v w
        by-verdict v w n e f =
            let ended : (close_of (section_of (open_of (take 6 bs)).state (drop 6 bs)).state end).refused ≡ 0 =
            sym (ap (λ (x : Closed). x.refused) close-is) ∙ n in
            record {
              number = sym n ∙ closes;
              found = λ _. e ∙ ap (λ (x : Closed). x.end.verdict) close-is ∙ closed-verdict bs end opened taken ended;
              found-second = λ _ two. f ∙ ap (λ (x : Closed). x.second.verdict) close-is ∙ closed-second bs end opened taken ended two;
            }

  -- ── In the lent bytes ─────────────────────────────────────────────────────────────────────

  module _ (before : List ℕ) where
    pub no_room : length before < needed bs → Judge bs end before 9 before
    unfolding judge_code
    no_room l = refuses _ _ _ 9 (rw (lt-ltb _ _ l)) (λ z. omega arith)

    code_is : needed bs ≤ length before → (r : ℕ) → r ≡ whole_refusal bs end → judge_code bs end (length before) ≡ r
    unfolding judge_code
    code_is room r is = rw (le-ltb _ _ room) (sym is)

    pub refused_all : needed bs ≤ length before → (r : ℕ) → r ≡ whole_refusal bs end → (r ≡ 0 → ⊥) → Judge bs end before r before
    refused_all room r is n = refuses _ _ _ r (sym (code_is room r is)) n

    module _ (room : needed bs ≤ length before) (r : ℕ) (v w : Verdict) (j : Judged bs end r v w) where
      module _ (z : r ≡ 0) (q : ℕ) (after : List ℕ) where
        pub reported : (eqb (edition_for bs) 2 ≡ false) → Reported v before q after → Judge bs end before q after
        unfolding answer_bytes
        reported one p =
            let big : 20 ≤ length before = rw one at room in
            let code : room_for 20 (length before) ≡ judge_code bs end (length before) = rw (le-ltb _ _ big) (sym (code_is room r j.number ∙ z)) in
            record {
              result = p.result ∙ code;
              out = rw one (p.out ∙ (λ i. written (code i) (verdict_bytes (j.found z i)) before));
            }

        pub reported-both : (eqb (edition_for bs) 2 ≡ true) → ReportedBoth v w before q after → Judge bs end before q after
        unfolding answer_bytes
        reported-both two p =
            let big : 40 ≤ length before = rw two at room in
            let code : room_for 40 (length before) ≡ judge_code bs end (length before) = rw (le-ltb _ _ big) (sym (code_is room r j.number ∙ z)) in
            record {
              result = p.result ∙ code;
              out = rw two (p.out ∙ (λ i. written (code i) (verdict_bytes (j.found z i) ++ verdict_bytes (j.found-second z (eqb-true _ _ two) i)) before));
            }

-- the bytes that are asked for, by the edition that was read
pub needs-is : (bs : List ℕ) {n k : ℕ} → n ≡ cond (eqb k 2) 40 20 → k ≡ edition_for bs → n ≡ needed bs
needs-is bs e is = e ∙ ap (λ (m : ℕ). cond (eqb m 2) 40 20) is
