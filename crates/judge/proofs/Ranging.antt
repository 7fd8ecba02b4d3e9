-- The ranges of check 17 as facts, and what a state in range has of its ranks.
-- Assumes nothing.
use Prim.Native.Nat.{ℕ, ◌+◌, ◌/◌, ◌%◌, ◌≤◌}
use mathlib.Core.Bool.{Bool, true, false, cond, ◌||◌}
use mathlib.Core.List.{List}
use mathlib.Core.Path.{◌≡◌, refl, sym, ap, ◌∙◌}
use lib.Dec.{eqb, ltb}
use lib.ListN.{length}
use borrow.Author.Tests.{leb-true, eqb-true, eq-eqb, le-ltb, lt-ltb, ne_eqb}
use Rattle.laws.proofs.Both.{both}
use Rattle.header.specs.Counts.{t_refi}
use Rattle.records.specs.Record.{records, has_zero}
use Rattle.wide.specs.Editions.{size, view, spare_in, refusal}
use Rattle.chip.specs.Chip.{chip_of}
use Rattle.running.specs.Ranges.{limit, last_edge}
use Rattle.running.specs.Ends.{no_end}
use Rattle.running.proofs.Ranging.{small}
use Rattle.edges.specs.Ranges.{rank_in_range}
use Rattle.edges.specs.Ends.{end_of, ended_of}
use Rattle.edges.proofs.Ranging.{ended-ends}
use Rattle.judge.specs.declared.State.{State}
use Rattle.judge.specs.Ranges.{ranks_agree, in_range}
use Rattle.judge.specs.Calls.{refuse, take, folded, taken_by, section_of, second_end, second_ended}

-- what the test tells of the second rank
pub record Agreed (s : State) : Type 0 where
  pub rank : rank_in_range s.two ≡ true
  pub count : s.one.count ≡ s.two.count
  pub edge : s.one.edge ≡ s.two.edge

-- and of all
pub record Tested (s : State) : Type 0 where
  pub some : 1 ≤ (t_refi s.header).clocks
  pub rank : rank_in_range s.one ≡ true
  pub second : s.edition ≡ 2 → Agreed s
  pub only : (s.edition ≡ 2 → ⊥) → s.edition ≡ 1

agreed : (s : State) → ranks_agree s ≡ true → s.edition ≡ 2 → Agreed s
unfolding ranks_agree
agreed s h e =
    let a = both _ _ (rw (eq-eqb s.edition 2 e) at h) in
    let b = both _ _ a.1 in
    record { rank = a.0; count = eqb-true _ _ b.0; edge = eqb-true _ _ b.1 }

one_only : (s : State) → ranks_agree s ≡ true → (s.edition ≡ 2 → ⊥) → s.edition ≡ 1
unfolding ranks_agree
one_only s h n = eqb-true _ _ (rw (ne_eqb s.edition 2 n) at h)

pub tested : (s : State) → in_range s ≡ true → Tested s
unfolding in_range
tested s h =
    let a = both _ _ h in
    let b = both _ _ a.1 in
    record { some = leb-true _ _ a.0; rank = b.0; second = agreed s b.1; only = one_only s b.1 }

module _ (s : State) (range : in_range s ≡ true) where
  pub ends : (t : ℕ) → ltb t s.one.edge || ltb last_edge t ≡ false → ended_of (chip_of s.header) s.one t ≡ end_of (chip_of s.header) s.one t
  ends = let t = tested s range in ended-ends (chip_of s.header) (small s.header t.some) s.one t.rank

  -- the second rank's last edge is the first's
  pub second-ends : (t : ℕ) → ltb t s.one.edge || ltb last_edge t ≡ false → second_ended s t ≡ second_end s t
  second-ends t within = go (eqb s.edition 2) refl
    where
      go : (x : Bool) → eqb s.edition 2 ≡ x → cond x (ended_of (chip_of s.header) s.two t) no_end ≡ cond x (end_of (chip_of s.header) s.two t) no_end
      go true p =
          let k = tested s range in
          let a = k.second (eqb-true _ _ p) in
          ended-ends (chip_of s.header) (small s.header k.some) s.two a.rank t
          (ap (λ (m : ℕ). ltb t m || ltb last_edge t) (sym a.edge) ∙ within)
      go false p = refl

  -- ── A section ─────────────────────────────────────────────────────────────────────────────

  module _ (bs : List ℕ) where
    -- by its refusal
    pub section-by : (n : ℕ) → n ≡ refusal s.edition s.one.count bs → taken_by n s bs ≡ section_of s bs
    unfolding section_of
    section-by n e = rw range (ap (λ (m : ℕ). taken_by m s bs) e)

    pub is-five : (length bs % size s.edition ≡ 0 → ⊥) → refuse 5 s ≡ section_of s bs
    unfolding refusal
    is-five n = section-by 5 (rw (ne_eqb _ _ n))

    module _ (even : length bs % size s.edition ≡ 0) where
      pub is-seven : limit + 1 ≤ s.one.count + length bs / size s.edition → refuse 7 s ≡ section_of s bs
      unfolding refusal
      is-seven l = section-by 7 (rw (eq-eqb _ _ even, lt-ltb _ _ l))

      module _ (room : s.one.count + length bs / size s.edition ≤ limit) where
        pub is-six : has_zero (records (view s.edition false bs)) ≡ true → refuse 6 s ≡ section_of s bs
        unfolding refusal
        is-six z = section-by 6 (rw (eq-eqb _ _ even, le-ltb _ _ room, z))

        module _ (steps : has_zero (records (view s.edition false bs)) ≡ false) where
          pub is-fourteen : spare_in s.edition bs ≡ true → refuse 14 s ≡ section_of s bs
          unfolding refusal
          is-fourteen z = section-by 14 (rw (eq-eqb _ _ even, le-ltb _ _ room, steps, z))

          pub is-taken : spare_in s.edition bs ≡ false → take (folded s bs) ≡ section_of s bs
          unfolding refusal
          is-taken z = section-by 0 (rw (eq-eqb _ _ even, le-ltb _ _ room, steps, z))
