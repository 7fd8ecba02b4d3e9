-- Opening counts no record; a section that is taken adds its records to the count, and keeps the limit.
-- Assumes nothing.
use Prim.Native.Nat.{ℕ, zero, suc, ◌+◌, ◌*◌, ◌/◌, ◌%◌, ◌≤◌}
use native.Mathlib.Nat.{add-zero}
use native.Mathlib.Decide.{ℕ_discrete}
use native.Mathlib.Omega.{arith}
use mathlib.Core.Bool.{Bool, true, false, cond}
use mathlib.Core.List.{List, [], ◌∷◌}
use mathlib.Core.Path.{◌≡◌, refl, sym, ap, ◌∙◌}
use borrow.Author.Tests.{ltb-false, eq-eqb, ne_eqb}
use lib.Dec.{eqb, ltb}
use lib.ListN.{length, drop, length-take, length-drop}
use lib.ListN.{take as firsts}
use Rattle.answers.specs.declared.Verdict.{Verdict}
use Rattle.chip.specs.declared.Chip.{Chip}
use Rattle.chip.specs.Chip.{chip_of}
use Rattle.records.specs.declared.Record.{Record}
use Rattle.records.specs.Record.{records, has_zero}
use Rattle.records.proofs.Records.{length-records}
use Rattle.wide.specs.Editions.{size, view, spare_in, refusal}
use Rattle.wide.proofs.Editions.{view-count}
use Rattle.edges.specs.declared.Rank.{Rank}
use Rattle.judge.specs.declared.State.{State}
use Rattle.header.specs.Bytes.{Parsed}
use Rattle.std.specs.Prelude.{Ok, Err}
use Rattle.header.specs.Bytes.{edition_for, parsed_of}
use Rattle.edges.specs.Ends.{fresh_rank}
use Rattle.judge.specs.Calls.{opened_by, open_of, refuse, folded, taken_by, section_of}
use Rattle.running.specs.Ranges.{limit}
use Rattle.judge.specs.Ranges.{in_range}
use Rattle.running.specs.Said.{is_clean}
use Rattle.edges.specs.Says.{says_of}
use Rattle.edges.specs.Step.{moved_of, stopped_of, step_of, fold_of}
use Rattle.program.specs.declared.Run.{Run}
use Rattle.program.specs.Program.{opened_run, ran_over}
use Rattle.program.proofs.Blocks.{after, goes, had-more, was-full}
use Rattle.verdict.specs.Reading.{Opened, Took}

-- a full section was taken: 750 records more at least, those of edition 2, within the limit
pub record Full (before after : State) : Type 0 where
  pub more : before.one.count + 750 ≤ after.one.count
  pub within : after.one.count ≤ limit

module _ (C : Chip) where
  by_cases : (s : Rank) (r : Record) (v w : Verdict) (x y : Bool)
      → (cond x (cond y (moved_of C s r) (stopped_of s r v)) (stopped_of s r w)).count ≡ s.count + 1
  unfolding moved_of stopped_of
  by_cases s r v w true true = refl
  by_cases s r v w true false = refl
  by_cases s r v w false y = refl

  one_more_lem : (s : Rank) (r : Record) → (step_of C s r).count ≡ s.count + 1
  unfolding step_of
  one_more_lem s r = by_cases s r _ _ (is_clean s.first) (is_clean (says_of C s r))

  all_more : (s : Rank) (rs : List Record) → (fold_of C s rs).count ≡ s.count + length rs
  all_more s [] = sym (add-zero s.count)
  all_more s (r ∷ rs) = omega (arith, all_more (step_of C s r) rs, one_more_lem s r)

-- a section that is not refused keeps the limit
room : (e n : ℕ) (bs : List ℕ) → refusal e n bs ≡ 0 → n + length bs / size e ≤ limit
unfolding refusal
room e n bs z = go (eqb (length bs % size e) 0) (ltb limit (n + length bs / size e)) refl (has_zero (records (view e false bs))) (spare_in e bs) z
  where
    go : (x y : Bool) → ltb limit (n + length bs / size e) ≡ y → (z w : Bool) → ◌≡◌ {A = ℕ} (cond x (cond y 7 (cond z 6 (cond w 14 0))) 5) 0
        → n + length bs / size e ≤ limit
    go true false q z w f = ltb-false limit (n + length bs / size e) q
    go true true q z w f = absurd (omega arith)
    go false y q z w f = absurd (omega arith)

-- 6,000 bytes have 1,000 records, or 750
least : (e : ℕ) (bs : List ℕ) → length bs ≡ 6000 → 750 ≤ length bs / size e
unfolding size
least e bs full = go (eqb e 2)
  where
    go : (x : Bool) → 750 ≤ length bs / cond x 8 6
    go true = omega (arith, full)
    go false = omega (arith, full)

module _ (s : State) (bs : List ℕ) (full : length bs ≡ 6000) where
  counted : (folded s bs).one.count ≡ s.one.count + length bs / size s.edition
  counted =
      let seen = view s.edition false bs in
      omega (arith, all_more (chip_of s.header) s.one (records seen), length-records seen, view-count s.edition bs)

  picked : (a : Bool) (n : ℕ) → n ≡ refusal s.edition s.one.count bs → (cond a (taken_by n s bs) (refuse 17 s)).refused ≡ 0
      → Full s (cond a (taken_by n s bs) (refuse 17 s)).state
  picked false n e z = absurd (omega arith)
  picked true n e z = elim (ℕ_discrete n 0) [
    | no q ↦ absurd (q (rw (ne_eqb n 0 q) at z))
    | yes q ↦
        let fits = room s.edition s.one.count bs (sym e ∙ q) in
        rw (eq-eqb n 0 q) (record { more = omega (arith, counted, least s.edition bs full); within = omega (arith, counted, fits) })
  ]

  pub taken-full : (section_of s bs).refused ≡ 0 → Full s (section_of s bs).state
  unfolding section_of
  taken-full z = picked (in_range s) (refusal s.edition s.one.count bs) refl z

-- sections in turn, and there may be more: all were full, and taken
pub record Filled (n : ℕ) (r : Run) (bs : List ℕ) : Type 0 where
  pub bytes : n * 6000 ≤ length bs
  pub records : r.state.one.count + n * 750 ≤ (ran_over n r bs).state.one.count
  pub within : r.state.one.count ≤ limit → (ran_over n r bs).state.one.count ≤ limit

pub filled : (n : ℕ) (r : Run) (bs : List ℕ) → (ran_over n r bs).more ≡ true → Filled n r bs
unfolding ran_over
filled zero r bs h = record { bytes = omega arith; records = omega arith; within = λ w. w }
filled (suc n) r bs h =
    let is = goes n r bs (had-more (suc n) r bs h) in
    let later : (ran_over n (after r bs) (drop 6000 bs)).more ≡ true = sym (ap (λ (q : Run). q.more) is) ∙ h in
    let was = was-full r.state (firsts 6000 bs) (had-more n (after r bs) (drop 6000 bs) later) in
    let one = taken-full r.state (firsts 6000 bs) was.1 was.0 in
    let rest = filled n (after r bs) (drop 6000 bs) later in
    let same : (ran_over (suc n) r bs).state.one.count ≡ (ran_over n (after r bs) (drop 6000 bs)).state.one.count = ap (λ (q : Run). q.state.one.count) is in
    record {
      bytes = omega (arith, rest.bytes, was.1, length-take 6000 bs, length-drop 6000 bs);
      records = omega (arith, same, rest.records, one.more);
      within = λ w. omega (arith, same, rest.within one.within);
    }

-- opening counts no record
by-header : (e : ℕ) (p : Parsed) → (opened_by e p).state.one.count ≡ 0
unfolding fresh_rank
by-header e (Ok h) = refl
by-header e (Err n) = refl

pub none_yet : (bs : List ℕ) → (open_of bs).state.one.count ≡ 0
unfolding open_of
none_yet bs = by-header (edition_for bs) (parsed_of (edition_for bs) bs)

pub opened-none : (r : Run) → Opened r → r.state.one.count ≡ 0
opened-none r w = ap (λ (x : Run). x.state.one.count) w.2 ∙ none_yet w.0

pub opened-by : {r : Run} (bs : List ℕ) → r ≡ opened_run bs → (n : ℕ) → n ≡ length bs → n ≤ 6 → Opened r
opened-by bs e n size most = (bs, omega arith, e)

pub took_by : (start : Run) {r : Run} (bs : List ℕ) → r ≡ ran_over 10 start bs → (n : ℕ) → n ≡ length bs → n ≤ 60000 → Took start r
took_by start bs e n size most = (bs, omega arith, e)
