-- What follows for a caller from `Wrote`, and how a function shows it.
-- Assumes nothing.
use Prim.Native.Nat.{ℕ, ◌+◌, ◌-◌, ◌≤◌}
use native.Mathlib.Omega.{arith}
use mathlib.Core.Bool.{Bool, true, false, cond}
use mathlib.Core.List.{List, ◌++◌, append_assoc, append-nil}
use mathlib.Core.Path.{◌≡◌, refl, ap, ◌∙◌}
use lib.ListN.{length, take, drop, length-drop, drop_of_length-le}
use lib.Seq.{drop-append_seam, drop-drop, take_all, take-length}
use lib.Dec.{eqb}
use borrow.Author.Tests.{eq-eqb, ne_eqb}
use Rattle.laws.specs.Lent.{written, Wrote}
use Rattle.laws.proofs.Unique.{one_answer}

module _ (n : ℕ) (words before : List ℕ) where
  -- a refusal: nothing is written
  pub refuses : (r : ℕ) → r ≡ n → (r ≡ 0 → ⊥) → Wrote n words before r before
  unfolding written
  refuses r is some = record { result = is; out = rw (← is, ne_eqb r 0 some) }

  -- success: the words are copied to the front
  pub writes : (l after : List ℕ) → 0 ≡ n → l ≡ words → after ≡ take (length l) l ++ drop (length l) before → Wrote n words before 0 after
  unfolding written
  writes l after is w copied = record { result = is; out = rw (← is, ← w) (copied ∙ rw take-length) }

  module _ (r : ℕ) (after : List ℕ) (w : Wrote n words before r after) where
    pub refused-keeps-all : (r ≡ 0 → ⊥) → after ≡ before
    unfolding written
    refused-keeps-all some = w.out ∙ rw (← w.result, ne_eqb r 0 some)

    pub success-writes : r ≡ 0 → after ≡ words ++ drop (length words) before
    unfolding written
    success-writes none = w.out ∙ rw (← w.result, eq-eqb r 0 none)

    pub later-bytes-kept : drop (length words) after ≡ drop (length words) before
    unfolding written
    later-bytes-kept = ap (drop (length words)) w.out ∙ go (eqb n 0)
      where
        go : (x : Bool) → drop (length words) (cond x (words ++ drop (length words) before) before) ≡ drop (length words) before
        go true = drop-append_seam words (drop (length words) before)
        go false = refl

-- two answers that `Wrote` allows are the same number and leave the same bytes
pub same_answer :
    {n r r' : ℕ} {words before after after' : List ℕ} → Wrote n words before r after → Wrote n words before r' after'
    → (r ≡ r') × (after ≡ after')
same_answer {n} {r} {r'} {words} {before} {after} {after'} one other =
    (one_answer n r r' one.result other.result, one_answer (written n words before) after after' one.out other.out)

-- a text copied into the part of the lent bytes from `at` on
pub pasted : (text before : List ℕ) (at : ℕ) {part : List ℕ}
    → part ≡ take (length text) text ++ drop (length text) (take (length before - at) (drop at before))
    → take at before ++ (part ++ drop (length before - at) (drop at before)) ≡ take at before ++ text ++ drop (at + length text) before
pasted text before at {part} is =
    rw (copy, drop_of_length-le behind all, append-nil, drop-drop (length text) at before, append_assoc)
  where
    behind : List ℕ
    behind = drop at before

    all : length behind ≤ length before - at
    all = omega (arith, length-drop at before)

    copy : part ≡ text ++ drop (length text) behind
    copy = is ∙ rw (take-length, take_all (length before - at) behind all)
