-- What a move that is not refused has; and what a move answers, by its checks and the room that there is.
-- Assumes nothing.
use Rattle.std.proofs.Common.{◌≡◌, ℕ, ◌-◌, ◌/◌, ◌%◌, ◌<◌, ◌≤◌, Bool, true, false, cond, eqb, ltb, List, length, take, drop, sym, refl, ◌∙◌, arith, length-drop, length-take, take_all, ltb-false, le-ltb, lt-ltb, eq-eqb, ne_eqb, eqb-true}
use borrow.Author.Tests.{eqb-false}
use Rattle.header.specs.Bytes.{header_refusal, header_word, fields_refusal}
use Rattle.moves.specs.Moves.{opening, refusal_by, code_of}

-- what lies behind the header, as it is lent
pub lent : (bs : List ℕ) → take (length bs - 6) (drop 6 bs) ≡ drop 6 bs
lent bs = take_all (length bs - 6) (drop 6 bs) (omega (arith, length-drop 6 bs))

pub opened : (e : ℕ) (bs : List ℕ) → opening e bs ≡ 0 → (6 ≤ length bs) × (fields_refusal e (header_word (take 6 bs)) ≡ 0)
unfolding header_refusal
opened e bs o = go (eqb (length (take 6 bs)) 6) refl o
  where
    go : (x : Bool) → eqb (length (take 6 bs)) 6 ≡ x → cond x (fields_refusal e (header_word (take 6 bs))) 1 ≡ 0
        → (6 ≤ length bs) × (fields_refusal e (header_word (take 6 bs)) ≡ 0)
    go true y z = (omega (arith, eqb-true (length (take 6 bs)) 6 y, length-take 6 bs), z)
    go false y z = absurd (omega arith)

-- ── A move that is not refused ──────────────────────────────────────────────────────────────

pub record Goes (e size more : ℕ) (bs : List ℕ) : Type 0 where
  pub opens : opening e bs ≡ 0
  pub whole : length (drop 6 bs) % size ≡ 0
  pub few : length (drop 6 bs) / size ≤ 1048576
  pub rest : more ≡ 0

module _ (e size more : ℕ) (bs : List ℕ) where
  pub goes : refusal_by e size more bs ≡ 0 → Goes e size more bs
  unfolding refusal_by
  goes none = by-header (eqb (opening e bs) 0) refl none
    where
      by_count : (x : Bool) → ltb 1048576 (length (drop 6 bs) / size) ≡ x → opening e bs ≡ 0 → length (drop 6 bs) % size ≡ 0
          → cond x 7 more ≡ 0 → Goes e size more bs
      by_count true y o w z = absurd (omega arith)
      by_count false y o w z = record { opens = o; whole = w; few = ltb-false _ _ y; rest = z }

      by_length : (x : Bool) → eqb (length (drop 6 bs) % size) 0 ≡ x → opening e bs ≡ 0
          → cond x (cond (ltb 1048576 (length (drop 6 bs) / size)) 7 more) 5 ≡ 0 → Goes e size more bs
      by_length true y o z = by_count (ltb 1048576 (length (drop 6 bs) / size)) refl o (eqb-true _ _ y) z
      by_length false y o z = absurd (omega arith)

      by-header : (x : Bool) → eqb (opening e bs) 0 ≡ x
          → cond x (cond (eqb (length (drop 6 bs) % size) 0) (cond (ltb 1048576 (length (drop 6 bs) / size)) 7 more) 5) (opening e bs) ≡ 0
          → Goes e size more bs
      by-header true y z = by_length (eqb (length (drop 6 bs) % size) 0) refl (eqb-true _ _ y) z
      by-header false y z = absurd (eqb-false _ _ y z)

  pub goes_on : Goes e size more bs → refusal_by e size more bs ≡ 0
  unfolding refusal_by
  goes_on g = rw (eq-eqb _ _ g.opens, eq-eqb _ _ g.whole, le-ltb _ _ g.few) g.rest

-- it has a header
pub six-or-more : (e size more : ℕ) (bs : List ℕ) (r : ℕ) → r ≡ refusal_by e size more bs → r ≡ 0 → 6 ≤ length bs
six-or-more e size more bs r is none = (opened e bs (goes e size more bs (sym is ∙ none)).opens).0

-- ── The lent buffer ─────────────────────────────────────────────────────────────────────────

module _ (n : ℕ) (moved : List ℕ) (room : ℕ) where
  pub code-refused : (n ≡ 0 → ⊥) → n ≡ code_of n moved room
  unfolding code_of
  code-refused some = rw (ne_eqb n 0 some)

  pub code-nine : n ≡ 0 → room < length moved → 9 ≡ code_of n moved room
  unfolding code_of
  code-nine none over = rw (eq-eqb n 0 none, lt-ltb _ _ over)

  pub code-none : n ≡ 0 → length moved ≤ room → 0 ≡ code_of n moved room
  unfolding code_of
  code-none none fits = rw (eq-eqb n 0 none, le-ltb _ _ fits)

  pub code-zero : code_of n moved room ≡ 0 → n ≡ 0
  unfolding code_of
  code-zero z = go (eqb n 0) refl z
    where
      go : (x : Bool) → eqb n 0 ≡ x → cond x (cond (ltb room (length moved)) 9 0) n ≡ 0 → n ≡ 0
      go true y h = eqb-true n 0 y
      go false y h = h
