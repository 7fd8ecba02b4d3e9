-- The checks over sections are those of the whole recording, however it is cut between records.
-- Assumes nothing.
use Rattle.std.proofs.Common.{◌≡◌, ℕ, ◌+◌, ◌%◌, ◌<◌, Bool, true, false, cond, ◌||◌, eqb, List, [], ◌∷◌, ◌++◌, map, length, take, drop, sym, refl, ap, ◌∙◌, append_assoc, arith, length-append, length-drop, length-take, ne_eqb}
use mathlib.Core.Bool.{or_assoc}
use Rattle.laws.specs.Cuts.{run, uncut, Each}
use Rattle.refusals.specs.declared.Refusal.{Refusal}
use Rattle.refusals.specs.Refusals.{number_of}
use Rattle.refusals.proofs.Answers.{never_0}
use Rattle.header.specs.Bytes.{header_refusal}
use Rattle.records.specs.declared.Record.{Record}
use Rattle.records.specs.Record.{records, has_zero}
use Rattle.records.proofs.Pieces.{map-append}
use Rattle.records.proofs.Records.{records-append}
use Rattle.wide.specs.declared.Seen.{Seen}
use Rattle.wide.specs.declared.Wide.{Wide}
use Rattle.wide.specs.Wide.{wides, rank_of, has_spare, cannot_return}
use Rattle.wide.specs.Seen.{seen_none, seen_of}
use Rattle.wide.proofs.Wides.{wides-append, spare_of, stays_of}
use Rattle.moves.specs.declared.Check.{Check}
use Rattle.moves.specs.Moves.{opening, counted, refusal_by, widen_refusal, seen_refusal, narrow_refusal}
use Rattle.moves.specs.Check.{start_of, begun_of, seen_by, over_of, refusal_of}

-- ── In one section ──────────────────────────────────────────────────────────────────────────

module _ (bs : List ℕ) (fits : length bs < 18446744073709551616) where
  count : (0 + length (drop 6 bs)) % 18446744073709551616 ≡ length (drop 6 bs)
  count = omega (arith, length-drop 6 bs)

  pub widen-checked : refusal_of (over_of (begun_of 1 (take 6 bs)) (drop 6 bs)) ≡ widen_refusal bs
  unfolding refusal_of over_of begun_of seen_by refusal_by
  widen-checked = ap (λ (n : ℕ). cond (eqb (opening 1 bs) 0) (counted 6 n (cond (has_zero (records (drop 6 bs))) 6 0)) (opening 1 bs)) count

  pub narrow-checked : refusal_of (over_of (begun_of 2 (take 6 bs)) (drop 6 bs)) ≡ narrow_refusal bs
  unfolding refusal_of over_of begun_of seen_by refusal_by
  narrow-checked =
      ap (λ (n : ℕ). cond (eqb (opening 2 bs) 0) (counted 8 n (seen_refusal (seen_of seen_none (wides (drop 6 bs))))) (opening 2 bs)) count

-- a header that is refused: what comes behind it is not looked at
pub header-refuses : (c : Check) (bs : List ℕ) → (c.refused ≡ 0 → ⊥) → refusal_of (over_of c bs) ≡ c.refused
unfolding refusal_of over_of
header-refuses c bs some = rw (ne_eqb c.refused 0 some)

pub too_short : (e : ℕ) (bs : List ℕ) → length bs < 6 → 1 ≡ refusal_of (over_of (begun_of e (take 6 bs)) (drop 6 bs))
unfolding refusal_of over_of begun_of header_refusal
too_short e bs few = rw (ne_eqb (length (take 6 bs)) 6 (λ z. omega (arith, length-take 6 bs)))

-- a header's refusal, by its number
pub header-told : (e : ℕ) (hs xs : List ℕ) (r : Refusal) → number_of r ≡ header_refusal e hs → number_of r ≡ refusal_of (over_of (begun_of e hs) xs)
unfolding begun_of
header-told e hs xs r is = is ∙ sym (header-refuses (begun_of e hs) xs (λ z. never_0 r (is ∙ z)))

-- a header that is taken: what comes behind it tells
pub header-passes : (e : ℕ) (hs xs : List ℕ) (c : Check) → 0 ≡ header_refusal e hs → c ≡ over_of (start_of e 0) xs
    → refusal_of (record c { refused = 0 }) ≡ refusal_of (over_of (begun_of e hs) xs)
unfolding begun_of over_of
header-passes e hs xs c none is = ap (λ (x : Check). refusal_of (record x { refused = 0 })) is ∙ ap (λ (n : ℕ). refusal_of (over_of (start_of e n) xs)) none

-- ── A section more ──────────────────────────────────────────────────────────────────────────

zero-append : (rs ss : List Record) → has_zero (rs ++ ss) ≡ has_zero rs || has_zero ss
zero-append [] ss = refl
zero-append (r ∷ rs) ss = go (eqb r.step 0) (zero-append rs ss)
  where
    go : (x : Bool) → has_zero (rs ++ ss) ≡ has_zero rs || has_zero ss → cond x true (has_zero (rs ++ ss)) ≡ cond x true (has_zero rs) || has_zero ss
    go true e = refl
    go false e = e

seen-append : (s : Seen) (ws vs : List Wide) → seen_of (seen_of s ws) vs ≡ seen_of s (ws ++ vs)
seen-append s ws vs = λ i. record {
  zero =
      (or_assoc s.zero (has_zero (map (rank_of false) ws)) (has_zero (map (rank_of false) vs))
      ∙ ap (λ x. s.zero || x) (sym (ap has_zero (map-append (rank_of false) ws vs) ∙ zero-append (map (rank_of false) ws) (map (rank_of false) vs)))) i;
  spare = (or_assoc s.spare (has_spare ws) (has_spare vs) ∙ ap (λ x. s.spare || x) (sym (spare_of ws vs))) i;
  stays = (or_assoc s.stays (cannot_return ws) (cannot_return vs) ∙ ap (λ x. s.stays || x) (sym (stays_of ws vs))) i;
}

-- it ends between records
abbrev pub Whole : (edition : ℕ) → List ℕ → Type 0
Whole e bs = length bs % cond (eqb e 1) 6 8 ≡ 0

seen-by-append : (e : ℕ) (s : Seen) (xs ys : List ℕ) → Whole e xs → seen_by e (seen_by e s xs) ys ≡ seen_by e s (xs ++ ys)
unfolding seen_by
seen-by-append e s xs ys h = go (eqb e 1) h
  where
    by : Bool → Seen → List ℕ → Seen
    by x s bs = cond x (record { zero = s.zero || has_zero (records bs); spare = s.spare; stays = s.stays }) (seen_of s (wides bs))

    go : (x : Bool) → length xs % cond x 6 8 ≡ 0 → by x (by x s xs) ys ≡ by x s (xs ++ ys)
    go true w = λ i.
        record {
          zero =
              (or_assoc s.zero (has_zero (records xs)) (has_zero (records ys))
              ∙ ap (λ x. s.zero || x) (sym (ap has_zero (records-append xs ys w) ∙ zero-append (records xs) (records ys)))) i;
          spare = s.spare;
          stays = s.stays;
        }
    go false w = seen-append s (wides xs) (wides ys) ∙ ap (seen_of s) (sym (wides-append xs ys w))

over-append : (c : Check) (xs ys : List ℕ) → Whole c.edition xs → over_of (over_of c xs) ys ≡ over_of c (xs ++ ys)
unfolding over_of
over-append c xs ys h = λ i. record { edition = c.edition; refused = c.refused; bytes = bytes i; seen = seen-by-append c.edition c.seen xs ys h i }
  where
    bytes : ((c.bytes + length xs) % 18446744073709551616 + length ys) % 18446744073709551616 ≡ (c.bytes + length (xs ++ ys)) % 18446744073709551616
    bytes = omega (arith, length-append xs ys)

-- ── However it is cut ───────────────────────────────────────────────────────────────────────

same-edition : (c : Check) (xs : List ℕ) → (over_of c xs).edition ≡ c.edition
unfolding over_of
same-edition c xs = refl

over-sections : (e : ℕ) (c : Check) → c.edition ≡ e → (xss : List (List ℕ)) (last : List ℕ) → Each (Whole e) xss
    → run over_of c (xss ++ last ∷ []) ≡ over_of c (uncut xss ++ last)
over-sections e c is [] last h = refl
over-sections e c is (xs ∷ xss) last h =
    over-sections e (over_of c xs) (same-edition c xs ∙ is) xss last h.1 ∙ over-append c xs (uncut xss ++ last) (rw is h.0)
    ∙ ap (over_of c) (sym (append_assoc xs (uncut xss) last))

begun-edition : (e : ℕ) (hs : List ℕ) → (begun_of e hs).edition ≡ e
unfolding begun_of
begun-edition e hs = refl

module _ (bs : List ℕ) (fits : length bs < 18446744073709551616) (xss : List (List ℕ)) (last : List ℕ) (cut : uncut xss ++ last ≡ drop 6 bs) where
  pub widen-sections : Each (Whole 1) xss → refusal_of (run over_of (begun_of 1 (take 6 bs)) (xss ++ last ∷ [])) ≡ widen_refusal bs
  widen-sections h =
      ap refusal_of (over-sections 1 (begun_of 1 (take 6 bs)) (begun-edition 1 (take 6 bs)) xss last h ∙ ap (over_of (begun_of 1 (take 6 bs))) cut) ∙ widen-checked bs fits

  pub narrow-sections : Each (Whole 2) xss → refusal_of (run over_of (begun_of 2 (take 6 bs)) (xss ++ last ∷ [])) ≡ narrow_refusal bs
  narrow-sections h =
      ap refusal_of (over-sections 2 (begun_of 2 (take 6 bs)) (begun-edition 2 (take 6 bs)) xss last h ∙ ap (over_of (begun_of 2 (take 6 bs))) cut) ∙ narrow-checked bs fits
