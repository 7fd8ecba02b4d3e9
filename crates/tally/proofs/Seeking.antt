-- Sections in turn, and files in turn: a file's sections have what the file has, wherever it is cut between records.
-- Assumes nothing.
use Rattle.std.proofs.Common.{Option, Some, ◌≡◌, ℕ, ◌+◌, ◌%◌, Bool, true, false, cond, eqb, ◌⊎◌, List, [], ◌∷◌, ◌++◌, length, sym, refl, ap, ◌∙◌, inl, inr, append-nil}
use Rattle.records.specs.Record.{fields_of, words}
use Rattle.records.proofs.Words.{words_append}
use Rattle.tally.specs.declared.Placed.{Placed}
use Rattle.tally.specs.declared.Spot.{Spot}
use Rattle.tally.specs.Walk.{wrapped}
use Rattle.tally.specs.Places.{after_of, passed_of, placed_of, find_of, body_of}
use Rattle.tally.specs.Search.{first, pass_in, find_in, Between, Cut}
use Rattle.laws.specs.Cuts.{uncut}

-- ── Sections in turn ────────────────────────────────────────────────────────────────────────

pass-append : (ws vs : List ℕ) (s : Spot) → passed_of s (ws ++ vs) ≡ passed_of (passed_of s ws) vs
pass-append [] vs s = refl
pass-append (w ∷ ws) vs s = pass-append ws vs (after_of s (fields_of w))

find-append : (n : ℕ) (ws vs : List ℕ) (s : Spot) → find_of n s (ws ++ vs) ≡ first (find_of n s ws) (find_of n (passed_of s ws) vs)
find-append n [] vs s = refl
find-append n (w ∷ ws) vs s =
    let m = after_of s (fields_of w) in
    go (eqb (wrapped (s.reached.number + 1)) n) (find_of n m (ws ++ vs)) (find_of n m ws) (find_of n (passed_of m ws) vs) (find-append n ws vs m)
  where
    go :
        (x : Bool) (a b c : Option Placed) → a ≡ first b c
        → cond x (Some (placed_of s (fields_of w) w)) a ≡ first (cond x (Some (placed_of s (fields_of w) w)) b) c
    go true a b c e = refl
    go false a b c e = e

words-cut : (xs ys : List ℕ) → (length xs % 6 ≡ 0) ⊎ (ys ≡ []) → words (xs ++ ys) ≡ words xs ++ words ys
words-cut xs ys (inl h) = words_append xs ys h
words-cut xs ys (inr e) = rw (e, append-nil xs, append-nil (words xs))

pass-uncut : (xss : List (List ℕ)) (s : Spot) → Between xss → pass_in s xss ≡ passed_of s (words (uncut xss))
pass-uncut [] s b = refl
pass-uncut (xs ∷ xss) s b =
    pass-uncut xss (passed_of s (words xs)) b.1 ∙ sym (pass-append (words xs) (words (uncut xss)) s)
    ∙ ap (passed_of s) (sym (words-cut xs (uncut xss) b.0))

find-uncut : (n : ℕ) (xss : List (List ℕ)) (s : Spot) → Between xss → find_in n s xss ≡ find_of n s (words (uncut xss))
find-uncut n [] s b = refl
find-uncut n (xs ∷ xss) s b =
    ap (first (find_of n s (words xs))) (find-uncut n xss (passed_of s (words xs)) b.1)
    ∙ sym (find-append n (words xs) (words (uncut xss)) s) ∙ ap (find_of n s) (sym (words-cut xs (uncut xss) b.0))

-- ── Files in turn ───────────────────────────────────────────────────────────────────────────

module _ (h : Bool) (bs : List ℕ) (xss : List (List ℕ)) (c : Cut h bs xss) (s : Spot) where
  pub pass-file : pass_in s xss ≡ passed_of s (words (body_of h bs))
  pass-file = pass-uncut xss s c.between ∙ ap (λ ys. passed_of s (words ys)) c.bytes

  pub find-file : (n : ℕ) → find_in n s xss ≡ find_of n s (words (body_of h bs))
  find-file n = find-uncut n xss s c.between ∙ ap (λ ys. find_of n s (words ys)) c.bytes
