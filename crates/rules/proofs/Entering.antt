-- Rule 26 from what is kept is rule 26 by looking back.
-- Assumes nothing.
use Prim.Native.Nat.{ℕ, ◌+◌, ◌-◌, ◌≤◌, ◌<◌}
use native.Mathlib.Omega.{arith}
use native.Mathlib.Decide.{ℕ_discrete}
use mathlib.Core.Path.{◌≡◌, refl, sym, ap, ◌∙◌}
use mathlib.Core.Logic.{⊎_elim}
use mathlib.Core.Bool.{Bool, true, false, cond}
use mathlib.Core.List.{[], ◌∷◌, tail}
use lib.Dec.{eqb, ltb}
use borrow.Author.Tests.{ltb-true, ltb-false, le-ltb, lt-ltb, eq-eqb, ne_eqb}
use Rattle.laws.proofs.Both.{both}
use Rattle.answers.specs.declared.Break.TheVariants.{Fine, Broken}
use Rattle.records.specs.declared.Record.{Record}
use Rattle.records.specs.declared.Command.TheVariants.{Mrs, Wr, Rd}
use Rattle.chip.specs.declared.Chip.{Chip}
use Rattle.chip.specs.Latencies.{al_of, cl_of, cwl_of, wr_of, h_of}
use Rattle.running.specs.declared.Mark.{Mark}
use Rattle.running.specs.Down.{later_of, entry_read, entry_write}
use Rattle.rules.specs.Past.{Past, edge, number, is, on, a10_of, ◌∈◌, here, there, latest}
use Rattle.rules.specs.Registers.{regs, rl}
use Rattle.rules.specs.Banks.{closes, touches, is_idle, start, seen}
use Rattle.rules.proofs.Generic.{decide, edge-le}
use Rattle.rules.proofs.Events.{never, number-le, some, event-some, latest-is, unchanged-or}
use Rattle.rules.proofs.Clean.{Clean, is-other, clean-tail, clean-in}
use Rattle.rules.proofs.Starts.{closes-touches, start-wr, reach, reach-closes, reach-le}
use Rattle.rules.proofs.Facts.{Sound}
use Rattle.rules.proofs.Fits.{idle-closed, allowed-as}
use Rattle.rules.proofs.Dominate.{need11, regs_same}
use Rattle.rules.proofs.Summary.{mark, mark-at, wr_on, read_of, kept}
use Rattle.rules.proofs.Status.{latest-number, mark-num, start-mark-num}
use Rattle.rules.proofs.Words.{check}
use Rattle.rules.proofs.Either.{Before, later_second}
use Rattle.rules.proofs.Entry.{after_read, after_write, auto-closes, plain-open, read-settled, some-burst, over-at, auto-start, fits}

-- ── Events in order ─────────────────────────────────────────────────────────────────────────

pub tail-number : (m : Past) {s : Past} → s ∈ tail m → number s < number m
tail-number [] j = absurd (omega (arith, some j))
tail-number (r ∷ q) j = omega (arith, number-le j)

-- no event of a kind comes after the latest of it
pub latest-last : (k : Past → Bool) {s p : Past} → s ∈ p → k s ≡ true → (number s ≤ number (latest k p)) × (edge s ≤ edge (latest k p))
latest-last k here y = rw y (omega arith, omega arith)
latest-last k (there {r = r} {p = p} i) y = ⊎_elim
    (λ (z : k (r ∷ p) ≡ true). rw z (omega (arith, number-le i), omega (arith, edge-le i)))
    (λ (n : k (r ∷ p) ≡ false). rw n (latest-last k i y))
    (decide (k (r ∷ p)))

-- events of one number are one
pub same_number : {s t p : Past} → s ∈ p → t ∈ p → number s ≡ number t → s ≡ t
same_number here here e = refl
same_number here (there j) e = absurd (omega (arith, number-le j))
same_number (there i) here e = absurd (omega (arith, number-le i))
same_number (there i) (there j) e = same_number i j e

-- the earlier of two events comes before the later
pub earlier-in : {s t p : Past} {q : Record} → s ∈ p → q ∷ t ∈ p → number s < number (q ∷ t) → s ∈ t
earlier-in here here l = absurd (omega arith)
earlier-in here (there j) l = absurd (omega (arith, number-le j))
earlier-in (there i) here l = i
earlier-in (there i) (there j) l = earlier-in i j l

-- an event with a number, as its mark
mark-some : (need : Past → ℕ) (s : Past) → 1 ≤ number s → mark need s ≡ record { at = edge s; num = number s; need = need s }
mark-some need [] l = absurd (omega arith)
mark-some need (r ∷ p) l = refl

check-fine : (k e : ℕ) (m : Mark) → m.need ≤ e - m.at → check k e m ≡ Fine
check-fine k e m l = rw (le-ltb (e - m.at) m.need l)

check-before : (k e n : ℕ) (m : Mark) → m.num < n → Before n (check k e m)
check-before k e n m l = go (ltb (e - m.at) m.need)
  where
    go : (x : Bool) → Before n (cond x (Broken k m.num m.need (e - m.at)) Fine)
    go true = l
    go false = tt

check-none : (k e : ℕ) (need : Past → ℕ) (s : Past) → number s ≡ 0 → check k e (mark need s) ≡ Fine
check-none k e need [] z = rw (le-ltb (e - 0) 0 (omega arith))
check-none k e need (r ∷ p) z = absurd (omega arith)

module _ (p : Past) where
  abbrev m : Past
  m = latest (is Mrs) p

  -- the registers in force at an event, where no MRS came since
  regs-now : (s : Past) → s ∈ p → number m < number s → regs p ≡ regs s
  regs-now s i l = ⊎_elim
      (λ e. regs_same p s e)
      (λ w. absurd (omega (arith, tail-number w.0 w.2, (latest-last (is Mrs) w.1 w.3).0)))
      (unchanged-or (is Mrs) i)

  -- an MRS that came since
  mrs-since : (s : Past) → s ∈ p → is Mrs s ≡ false → number s ≤ number m → (t : Past) × (t ∈ p) × (s ∈ tail t) × (is Mrs t ≡ true)
  mrs-since [] i n l = absurd (omega (arith, event-some i))
  mrs-since (r ∷ q) i n l = ⊎_elim
      (λ e. absurd (omega (arith, earlier n, ap number e)))
      (λ w. w)
      (unchanged-or (is Mrs) i)
    where
      earlier : is Mrs (r ∷ q) ≡ false → number (latest (is Mrs) (r ∷ q)) ≤ number q
      earlier z = rw z (latest-number (is Mrs) q)

module _ (C : Chip) (S : Sound C) (r : Record) (p : Past) (hyp : Clean C p) (far : 1 ≤ r.step) where
  abbrev e : ℕ
  e = edge (r ∷ p)

  abbrev mrs : Past
  mrs = latest (is Mrs) p

  abbrev four_mrs : Mark
  four_mrs = mark (λ _. 4) mrs

  -- ── RD and MRS ────────────────────────────────────────────────────────────────────────────

  abbrev rd : Past
  rd = latest (is Rd) p

  read_kept : (s : Past) → entry_read (regs p) four_mrs (read_of C s)
      ≡ record { at = edge s; num = number s; need = cond (ltb (number mrs) (number s)) (al_of (regs p) + cl_of (regs p) + 5) 0 }
  read_kept [] = rw (mark-num (λ _. 4) mrs)
  read_kept (q ∷ s) = rw (mark-num (λ _. 4) mrs)

  module _ (i : rd ∈ p) (y : is Rd rd ≡ true) where
    -- no MRS since
    read-own : number mrs < number rd → check 26 e (entry_read (regs p) four_mrs (read_of C rd)) ≡ check 26 e (mark (after_read C) rd)
    read-own l =
        let g = regs-now p rd i l in
        ap (check 26 e) (read_kept rd ∙ rw (lt-ltb (number mrs) (number rd) l) (λ j. record { at = edge rd; num = number rd; need = al_of (g j) + cl_of (g j) + 5 })
        ∙ sym (mark-some (after_read C) rd (omega arith)))

    -- an MRS since: it breaks the rule, or the RD does not
    read-over : number rd ≤ number mrs
        → later_of Fine (check 26 e (mark (λ _. C.tmod) mrs)) ≡ later_of (check 26 e (mark (after_read C) rd)) (check 26 e (mark (λ _. C.tmod) mrs))
    unfolding later_of
    read-over l =
        let w = mrs-since p rd i (is-other Rd Mrs rd (λ z. omega arith) y) l in
        let q = latest-last (is Mrs) w.1 w.3 in
        let u = read-settled C S p hyp w.0 rd w.1 w.2 w.3 y in
        let n : number rd < number mrs = omega (arith, tail-number w.0 w.2) in
        rw (mark-some (λ _. C.tmod) mrs (omega arith), mark-some (after_read C) rd (omega (arith, event-some i))) (go (ltb (e - edge mrs) C.tmod) refl n (omega (arith, u, q.1, some-burst C S p hyp rd i y)))
      where
        go : (x : Bool) → ltb (e - edge mrs) C.tmod ≡ x → number rd < number mrs → edge rd + rl rd + 2 ≤ edge mrs
            → cond x (Broken 26 (number mrs) C.tmod (e - edge mrs)) Fine
            ≡ later_of (check 26 e (record { at = edge rd; num = number rd; need = rl rd + 5 })) (cond x (Broken 26 (number mrs) C.tmod (e - edge mrs)) Fine)
        go true z n k = sym (later_second 26 (number mrs) C.tmod (e - edge mrs) (check 26 e (record { at = edge rd; num = number rd; need = rl rd + 5 })) (check-before 26 e (number mrs) (record { at = edge rd; num = number rd; need = rl rd + 5 }) n))
        go false z n k = ap (λ x. later_of x Fine) (sym (check-fine 26 e (record { at = edge rd; num = number rd; need = rl rd + 5 }) (omega (arith, ltb-false (e - edge mrs) C.tmod z, S.mod-least))))

  pub read-agrees :
      later_of (check 26 e (entry_read (regs p) four_mrs (read_of C rd))) (check 26 e (mark (λ _. C.tmod) mrs))
      ≡ later_of (check 26 e (mark (after_read C) rd)) (check 26 e (mark (λ _. C.tmod) mrs))
  read-agrees = ⊎_elim
      (λ (n : rd ≡ []).
      let z : number rd ≡ 0 = ap number n in
      ap (λ x. later_of x (check 26 e (mark (λ _. C.tmod) mrs))) (none z ∙ sym (check-none 26 e (after_read C) rd z)))
      (λ w. ⊎_elim
      (λ (y : ltb (number mrs) (number rd) ≡ true). ap (λ x. later_of x (check 26 e (mark (λ _. C.tmod) mrs))) (read-own w.0 w.1 (ltb-true _ _ y)))
      (λ (n : ltb (number mrs) (number rd) ≡ false).
      ap (λ x. later_of x (check 26 e (mark (λ _. C.tmod) mrs))) (zero n) ∙ read-over w.0 w.1 (ltb-false _ _ n))
      (decide (ltb (number mrs) (number rd))))
      (latest-is (is Rd) p)
    where
      zero : ltb (number mrs) (number rd) ≡ false → check 26 e (entry_read (regs p) four_mrs (read_of C rd)) ≡ Fine
      zero n = ap (check 26 e) (read_kept rd) ∙ rw (n, le-ltb (e - edge rd) 0 (omega arith))

      none : number rd ≡ 0 → check 26 e (entry_read (regs p) four_mrs (read_of C rd)) ≡ Fine
      none z = zero (le-ltb (number mrs) (number rd) (omega arith))

  -- ── WR ────────────────────────────────────────────────────────────────────────────────────

  module _ (k : ℕ) (small : k < 8) where
    abbrev w : Past
    w = latest (wr_on k) p

    abbrev c : Past
    c = latest (closes k) p

    -- what it asks where it closed its bank, or did not
    abbrev asked : (own : ℕ) → (x y : Bool) → Mark
    asked own x y =
        record { at = edge w; num = number w; need = cond x (cond y (al_of (regs p) + cwl_of (regs p) + h_of (regs p) + wr_of (regs p) + 1) 0) own }

    write_kept : entry_write (regs p) four_mrs (kept C p k) ≡ asked (mark (need11 C) w).need (eqb (number c) (number w)) (ltb (number mrs) (number w))
    unfolding kept
    write_kept = rw (mark-at (need11 C) w, mark-num (need11 C) w, mark-num (λ _. 4) mrs, start-mark-num C c)

    module _ (i : w ∈ p) (y : wr_on k w ≡ true) where
      -- without auto precharge
      write-plain : a10_of w ≡ false → check 26 e (entry_write (regs p) four_mrs (kept C p k)) ≡ check 26 e (mark (after_write C) w)
      write-plain a =
          ap (check 26 e) (write_kept ∙ rw (ne_eqb (number c) (number w) other, mark-some (need11 C) w (event-some i)) (λ j. record { at = edge w; num = number w; need = sym plain j })
          ∙ sym (mark-some (after_write C) w (event-some i)))
        where
          plain : after_write C w ≡ need11 C w
          plain = rw a

          other : number c ≡ number w → ⊥
          other z = ⊎_elim
              (λ (n : c ≡ []). let q : number c ≡ 0 = ap number n in omega (arith, event-some i))
              (λ v. never v.1 (ap (closes k) (same_number v.0 i z) ∙ plain-open k w y a))
              (latest-is (closes k) p)

      module _ (a : a10_of w ≡ true) where
        shut : closes k w ≡ true
        shut = auto-closes k w y a

        -- it asks until its start is over
        over : start C w < e → check 26 e (mark (after_write C) w) ≡ Fine
        over l = ap (check 26 e) (mark-some (after_write C) w (event-some i))
            ∙ check-fine 26 e (record { at = edge w; num = number w; need = after_write C w }) (omega (arith, auto-start C S p hyp k small w y a))

        -- another closed the bank since
        write-closed : number w < number c → check 26 e (entry_write (regs p) four_mrs (kept C p k)) ≡ check 26 e (mark (after_write C) w)
        write-closed l = ⊎_elim
            (λ (n : c ≡ []). let q : number c ≡ 0 = ap number n in absurd (omega arith))
            (λ v. both-fine (closed-since c v.0 v.1 l))
            (latest-is (closes k) p)
          where
            closed-since : (s : Past) → s ∈ p → closes k s ≡ true → number w < number s → start C w ≤ edge p
            closed-since [] j z l = absurd (omega arith)
            closed-since (q ∷ s) j z l = omega (arith, over-at C S p hyp k small q s w j (inside j) shut (closes-touches k (q ∷ s) z), edge-le j)
              where
                inside : q ∷ s ∈ p → w ∈ s
                inside j = earlier-in i j l

            both-fine : start C w ≤ edge p → check 26 e (entry_write (regs p) four_mrs (kept C p k)) ≡ check 26 e (mark (after_write C) w)
            both-fine m =
                ap (check 26 e) (write_kept ∙ rw (ne_eqb (number c) (number w) (λ z. omega arith), mark-some (need11 C) w (event-some i)))
                ∙ check-fine 26 e (record { at = edge w; num = number w; need = need11 C w })
                (omega (arith, start-wr C w (both (is Wr w) (on k w) y).0, S.wr-wrp (regs w) (fits C S p hyp k small w i y)))
                ∙ sym (over (omega arith))

        -- it closed the bank itself
        write-own : number c ≡ number w → check 26 e (entry_write (regs p) four_mrs (kept C p k)) ≡ check 26 e (mark (after_write C) w)
        write-own z = ⊎_elim
            (λ (u : ltb (number mrs) (number w) ≡ true).
            let g = regs-now p w i (ltb-true _ _ u) in
            let auto : after_write C w ≡ al_of (regs w) + cwl_of (regs w) + h_of (regs w) + wr_of (regs w) + 1 = rw a in
            ap (check 26 e) (write_kept ∙ rw (eq-eqb (number c) (number w) z, u)
            (λ j. record { at = edge w; num = number w; need = (ap (λ x. al_of x + cwl_of x + h_of x + wr_of x + 1) g ∙ sym auto) j })
            ∙ sym (mark-some (after_write C) w (event-some i))))
            (λ (n : ltb (number mrs) (number w) ≡ false).
            ap (check 26 e) (write_kept ∙ rw (eq-eqb (number c) (number w) z, n))
            ∙ check-fine 26 e (record { at = edge w; num = number w; need = 0 }) (omega arith)
            ∙ sym (over (idle-since (mrs-since p w i (is-other Wr Mrs w (λ x. omega arith) (both (is Wr w) (on k w) y).0) (ltb-false _ _ n)))))
            (decide (ltb (number mrs) (number w)))
          where
            -- at an MRS the bank is idle
            idle-at : (t : Past) → t ∈ p → w ∈ tail t → is Mrs t ≡ true → start C w ≤ edge t
            idle-at [] j x u = never u refl
            idle-at (q ∷ t) j x u =
                let h = clean-in C j hyp in
                let d = allowed-as C Mrs q t h u k small refl in
                idle-start (latest (touches k) t) (edge (q ∷ t)) d (reach-le C k small t (clean-tail C q t h) x (closes-touches k w shut))
              where
                idle-start : (s : Past) (t : ℕ) → is_idle (seen C k s t) ≡ true → reach C k w ≤ reach C k s → start C w ≤ t
                idle-start [] t d l = omega (arith, reach-closes C k w shut)
                idle-start (q ∷ s) t d l =
                    let v = idle-closed C k q s t d in
                    omega (arith, reach-closes C k w shut, reach-closes C k (q ∷ s) v.0)

            idle-since : (t : Past) × (t ∈ p) × (w ∈ tail t) × (is Mrs t ≡ true) → start C w < e
            idle-since v = omega (arith, idle-at v.0 v.1 v.2 v.3, edge-le v.1)

    pub write-agrees : check 26 e (entry_write (regs p) four_mrs (kept C p k)) ≡ check 26 e (mark (after_write C) w)
    write-agrees = ⊎_elim
        (λ (n : w ≡ []). let z : number w ≡ 0 = ap number n in none z ∙ sym (check-none 26 e (after_write C) w z))
        (λ v. ⊎_elim
        (λ (a : a10_of w ≡ true). elim (ℕ_discrete (number c) (number w)) [
          | yes z ↦ write-own v.0 v.1 a z
          | no z ↦ write-closed v.0 v.1 a (omega (arith, z, (latest-last (closes k) v.0 (auto-closes k w v.1 a)).0))
        ])
        (λ (a : a10_of w ≡ false). write-plain v.0 v.1 a)
        (decide (a10_of w)))
        (latest-is (wr_on k) p)
      where
        own-none : (s : Past) → number s ≡ 0 → (mark (need11 C) s).need ≡ 0
        own-none [] z = refl
        own-none (q ∷ s) z = absurd (omega arith)

        either_way : (x : Bool) → ◌≡◌ {A = ℕ} (cond x 0 0) 0
        either_way true = refl
        either_way false = refl

        none : number w ≡ 0 → check 26 e (entry_write (regs p) four_mrs (kept C p k)) ≡ Fine
        none z =
            ap (check 26 e) (write_kept ∙ rw (own-none w z, le-ltb (number mrs) (number w) (omega arith)) (λ j. record { at = edge w; num = number w; need = either_way (eqb (number c) (number w)) j }))
            ∙ check-fine 26 e (record { at = edge w; num = number w; need = 0 }) (omega arith)
