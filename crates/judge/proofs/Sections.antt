-- A section of each edition, by what the rank or the ranks answer.
-- Assumes nothing.
use Prim.Native.Nat.{ℕ, ◌+◌, ◌/◌, ◌%◌, ◌≤◌}
use mathlib.Core.Bool.{Bool, true, false, cond}
use mathlib.Core.List.{List}
use mathlib.Core.Path.{◌≡◌, refl, sym, ap, ◌∙◌, subst}
use lib.ListN.{length}
use Rattle.records.specs.Record.{records, has_zero}
use Rattle.wide.specs.Moved.{narrow}
use Rattle.wide.specs.Editions.{size, view, spare_in}
use Rattle.wide.proofs.Editions.{size-one, size-two, view-one, view-two, second-one, spare-one, spare-two}
use Rattle.chip.specs.declared.Chip.{Chip}
use Rattle.chip.specs.Chip.{chip_of}
use Rattle.running.specs.Ranges.{limit}
use Rattle.running.proofs.Ranging.{small}
use Rattle.edges.specs.Folded.{Folded}
use Rattle.edges.specs.Step.{fold_of}
use Rattle.edges.specs.Ends.{taken_of}
use Rattle.edges.proofs.Ranging.{taken-folds}
use Rattle.judge.specs.declared.State.{State}
use Rattle.judge.specs.Pairs.{Pair}
use Rattle.judge.specs.Ranges.{in_range}
use Rattle.judge.specs.Calls.{holding, refuse, take, section_of}
use Rattle.judge.specs.Pairs.{begun_of, Took, Ready}
use Rattle.judge.proofs.Ranging.{tested, is-five, is-seven, is-six, is-fourteen, is-taken}

-- ── Edition 1 ───────────────────────────────────────────────────────────────────────────────

module _ (s : State) (range : in_range s ≡ true) (one : s.edition ≡ 1) (bs : List ℕ) where
  sixes-at : size s.edition ≡ 6
  sixes-at = ap size one ∙ size-one

  sees : view s.edition false bs ≡ bs
  sees = ap (λ (e : ℕ). view e false bs) one ∙ view-one bs

  pub one-five : (length bs % 6 ≡ 0 → ⊥) → refuse 5 s ≡ section_of s bs
  one-five n = is-five s range bs (λ e. n (ap (λ (k : ℕ). length bs % k) (sym sixes-at) ∙ e))

  module _ (sixes : length bs % 6 ≡ 0) where
    even : length bs % size s.edition ≡ 0
    even = ap (λ (k : ℕ). length bs % k) sixes-at ∙ sixes

    pub one-seven : limit + 1 ≤ s.one.count + length bs / 6 → refuse 7 s ≡ section_of s bs
    one-seven l = is-seven s range bs even (rw sixes-at l)

    module _ (room : s.one.count + length bs / 6 ≤ limit) (n : Folded) (e : n ≡ taken_of (chip_of s.header) s.one bs) where
      fits : s.one.count + length bs / size s.edition ≤ limit
      fits = rw sixes-at room

      abbrev either : Bool → Folded
      either z = cond z (record { zero = true; rank = s.one }) (record { zero = false; rank = fold_of (chip_of s.header) s.one (records bs) })

      is-either : n ≡ either (has_zero (records bs))
      is-either = let t = tested s range in e ∙ taken-folds (chip_of s.header) (small s.header t.some) s.one t.rank bs sixes room

      zero_is : n.zero ≡ has_zero (records (view s.edition false bs))
      zero_is = ap (λ (m : Folded). m.zero) is-either ∙ go (has_zero (records bs)) ∙ ap (λ xs. has_zero (records xs)) (sym sees)
        where
          go : (z : Bool) → (either z).zero ≡ z
          go true = refl
          go false = refl

      pub one-six : n.zero ≡ true → refuse 6 s ≡ section_of s bs
      one-six z = is-six s range bs even fits (sym zero_is ∙ z)

      pub one-taken : n.zero ≡ false → take (holding s.header s.edition n.rank s.two) ≡ section_of s bs
      one-taken z =
          ap take (λ i. holding s.header s.edition (first i) (second i))
          ∙ is-taken s range bs even fits none (ap (λ (e : ℕ). spare_in e bs) one ∙ spare-one bs)
        where
          none : has_zero (records (view s.edition false bs)) ≡ false
          none = sym zero_is ∙ z

          first : n.rank ≡ fold_of (chip_of s.header) s.one (records (view s.edition false bs))
          first =
              ap (λ (m : Folded). m.rank) (is-either ∙ ap either (ap (λ xs. has_zero (records xs)) (sym sees) ∙ none))
              ∙ ap (λ xs. fold_of (chip_of s.header) s.one (records xs)) (sym sees)

          second : s.two ≡ fold_of (chip_of s.header) s.two (records (view s.edition true bs))
          second = ap (λ xs. fold_of (chip_of s.header) s.two (records xs)) (sym (ap (λ (e : ℕ). view e true bs) one ∙ second-one bs))

-- ── Edition 2 ───────────────────────────────────────────────────────────────────────────────

module _ (s : State) (range : in_range s ≡ true) (two : s.edition ≡ 2) (bs : List ℕ) where
  eights_at : size s.edition ≡ 8
  eights_at = ap size two ∙ size-two

  sees-as : (second : Bool) → view s.edition second bs ≡ narrow second bs
  sees-as second = ap (λ (e : ℕ). view e second bs) two ∙ view-two second bs

  pub two-five : (length bs % 8 ≡ 0 → ⊥) → refuse 5 s ≡ section_of s bs
  two-five n = is-five s range bs (λ e. n (ap (λ (k : ℕ). length bs % k) (sym eights_at) ∙ e))

  module _ (eights : length bs % 8 ≡ 0) where
    even-two : length bs % size s.edition ≡ 0
    even-two = ap (λ (k : ℕ). length bs % k) eights_at ∙ eights

    pub two-seven : limit + 1 ≤ s.one.count + length bs / 8 → refuse 7 s ≡ section_of s bs
    two-seven l = is-seven s range bs even-two (rw eights_at l)

    module _ (room : s.one.count + length bs / 8 ≤ limit) where
      pub two_ready : Ready (chip_of s.header) (begun_of s) bs
      two_ready =
          let t = tested s range in
          let a = t.second two in
          record {
            small = small s.header t.some;
            clear = refl;
            eights = eights;
            first = record { range = t.rank; room = room };
            second = record { range = a.rank; room = subst (λ (m : ℕ). m + length bs / 8 ≤ limit) a.count room };
          }

      module _ (p : Pair) (took : Took (chip_of s.header) (begun_of s) bs p) where
        fits-two : s.one.count + length bs / size s.edition ≤ limit
        fits-two = rw eights_at room

        zero-two : p.zero ≡ has_zero (records (view s.edition false bs))
        zero-two = took.zero ∙ ap (λ xs. has_zero (records xs)) (sym (sees-as false))

        pub two-six : p.zero ≡ true → refuse 6 s ≡ section_of s bs
        two-six z = is-six s range bs even-two fits-two (sym zero-two ∙ z)

        module _ (z : p.zero ≡ false) where
          spare-is : p.spare ≡ spare_in s.edition bs
          spare-is = ap (λ (q : Pair). q.spare) (took.after z) ∙ sym (ap (λ (e : ℕ). spare_in e bs) two ∙ spare-two bs)

          pub two-fourteen : p.spare ≡ true → refuse 14 s ≡ section_of s bs
          two-fourteen w = is-fourteen s range bs even-two fits-two (sym zero-two ∙ z) (sym spare-is ∙ w)

          pub two-taken : p.spare ≡ false → take (holding s.header s.edition p.one p.two) ≡ section_of s bs
          two-taken w =
              ap (λ (q : Pair). take (holding s.header s.edition q.one q.two)) (took.after z)
              ∙ ap take (λ i. holding s.header s.edition
              (fold_of (chip_of s.header) s.one (records (sym (sees-as false) i)))
              (fold_of (chip_of s.header) s.two (records (sym (sees-as true) i))))
              ∙ is-taken s range bs even-two fits-two (sym zero-two ∙ z) (sym spare-is ∙ w)

-- ── The chip and the pair, by what made them ────────────────────────────────────────────────

module _ {C D : Chip} {p q : Pair} {bs : List ℕ} (e : C ≡ D) (f : p ≡ q) where
  pub took-as : {r : Pair} → Took C p bs r → Took D q bs r
  took-as {r} t = subst (λ (X : Chip). Took X q bs r) e (subst (λ (x : Pair). Took C x bs r) f t)

  pub ready-as : Ready D q bs → Ready C p bs
  ready-as t = subst (λ (X : Chip). Ready X p bs) (sym e) (subst (λ (x : Pair). Ready D x bs) (sym f) t)
