-- Words put one after the other, six bytes each: the next one lies over the last two bytes of the one before.
-- Assumes nothing.
use Prim.Native.Nat.{ℕ, ◌+◌, ◌*◌, ◌≤◌, ◌<◌}
use native.Mathlib.Numerals.{add-one}
use native.Mathlib.Omega.{arith}
use mathlib.Core.List.{List, [], ◌∷◌, ◌++◌, append-nil, append_assoc}
use mathlib.Core.Path.{◌≡◌, refl, sym, ap, ◌∙◌}
use lib.ListN.{length, take, drop, get_or, length-append, length-drop, take-append-drop}
use lib.Seq.{take-suc, take_at, drop_at, drop-drop, length-take-le}
use Rattle.wide.specs.Spread.{spread}
use Rattle.wide.specs.Low.{low6, lows}
use Rattle.wide.proofs.Spreading.{spread-append}

pub low-six : (n : ℕ) → length (low6 n) ≡ 6
unfolding low6
low-six n = refl

-- one word more
pub lows-more : (ws : List ℕ) (i : ℕ) → i < length ws → lows (i + 1) ws ≡ lows i ws ++ low6 (get_or ws i 0)
lows-more ws i there =
    ap (λ (n : ℕ). spread low6 (take n ws)) (add-one i) ∙ ap (spread low6) (take-suc ws i 0 there) ∙ spread-append low6 (take i ws) (get_or ws i 0 ∷ [])
    ∙ ap (λ bs. lows i ws ++ bs) (append-nil (low6 (get_or ws i 0)))

-- the six bytes that were put
module _ (o e : List ℕ) (at n : ℕ) (room : at + 6 ≤ length o) (put : e ≡ take at o ++ low6 n ++ drop (at + 6) o) where
  front_long : length (take at o ++ low6 n) ≡ at + 6
  front_long = omega (arith, length-append (take at o) (low6 n), length-take-le at o (omega arith), low-six n)

  pub put-long : length e ≡ length o
  put-long = ap length put ∙ omega (arith, length-append (take at o ++ low6 n) (drop (at + 6) o), front_long, length-drop (at + 6) o)

-- and two more behind them
module _ (o e : List ℕ) (at n u v : ℕ) (room : at + 8 ≤ length o) (put : e ≡ take at o ++ (low6 n ++ u ∷ v ∷ []) ++ drop (at + 8) o) where
  front-long : length (take at o ++ low6 n) ≡ at + 6
  front-long = omega (arith, length-append (take at o) (low6 n), length-take-le at o (omega arith), low-six n)

  eight : length (take at o ++ (low6 n ++ u ∷ v ∷ [])) ≡ at + 8
  eight = omega (arith, length-append (take at o) (low6 n ++ u ∷ v ∷ []), length-append (low6 n) (u ∷ v ∷ []), length-take-le at o (omega arith), low-six n)

  pub whole-front : take (at + 6) e ≡ take at o ++ low6 n
  whole-front =
      ap (take (at + 6)) (put ∙ ap (λ xs. xs ++ drop (at + 8) o) (sym (append_assoc (take at o) (low6 n) (u ∷ v ∷ []))) ∙ append_assoc (take at o ++ low6 n) (u ∷ v ∷ []) (drop (at + 8) o))
      ∙ take_at (take at o ++ low6 n) (u ∷ v ∷ drop (at + 8) o) (at + 6) front-long

  pub whole-behind : drop (at + 8) e ≡ drop (at + 8) o
  whole-behind = ap (drop (at + 8)) put ∙ drop_at (take at o ++ (low6 n ++ u ∷ v ∷ [])) (drop (at + 8) o) (at + 8) eight

  pub whole_long : length e ≡ length o
  whole_long = ap length put ∙ omega (arith, length-append (take at o ++ (low6 n ++ u ∷ v ∷ [])) (drop (at + 8) o), eight, length-drop (at + 8) o)

-- i words were put, from a place on
pub record Laying (ws before : List ℕ) (at : ℕ) (out : List ℕ) (i : ℕ) : Type 0 where
  pub front : take (at + 6 * i) out ≡ take at before ++ lows i ws
  pub behind : drop (at + 6 * i + 2) out ≡ drop (at + 6 * i + 2) before
  pub long : length out ≡ length before

pub lay-start : (ws before : List ℕ) (at : ℕ) → Laying ws before at before 0
lay-start ws before at = record {
  front = let e : at + 6 * 0 ≡ at = omega arith in ap (λ (n : ℕ). take n before) e ∙ sym (append-nil (take at before));
  behind = refl;
  long = refl;
}

-- none
pub lay-none : (ws before : List ℕ) (at : ℕ) → before ≡ take at before ++ lows 0 ws ++ drop (at + 6 * 0) before
lay-none ws before at =
    let e : at + 6 * 0 ≡ at = omega arith in
    sym (take-append-drop at before) ∙ (λ j. sym (append-nil (take at before)) j ++ drop (sym e j) before)

module _ (ws before : List ℕ) (at : ℕ) (out : List ℕ) (i : ℕ) (l : Laying ws before at out i) (there : i < length ws) where
  more : (take at before ++ lows i ws) ++ low6 (get_or ws i 0) ≡ take at before ++ lows (i + 1) ws
  more = append_assoc (take at before) (lows i ws) (low6 (get_or ws i 0)) ∙ ap (λ bs. take at before ++ bs) (sym (lows-more ws i there))

  -- what lies behind, k bytes further on
  further : (k m : ℕ) → at + 6 * i + 2 + k ≡ m → drop m out ≡ drop m before
  further k m e =
      ap (λ (n : ℕ). drop n out) (sym e) ∙ sym (drop-drop k (at + 6 * i + 2) out) ∙ ap (drop k) l.behind ∙ drop-drop k (at + 6 * i + 2) before
      ∙ ap (λ (n : ℕ). drop n before) e

  pub lay-turn : (after : List ℕ) → take (at + 6 * i + 6) after ≡ take (at + 6 * i) out ++ low6 (get_or ws i 0)
      → drop (at + 6 * i + 8) after ≡ drop (at + 6 * i + 8) out → length after ≡ length out → Laying ws before at after (i + 1)
  lay-turn after front behind long = record {
    front = let e : at + 6 * (i + 1) ≡ at + 6 * i + 6 = omega arith in
        ap (λ (n : ℕ). take n after) e ∙ front ∙ ap (λ bs. bs ++ low6 (get_or ws i 0)) l.front ∙ more;
    behind = let e : at + 6 * (i + 1) + 2 ≡ at + 6 * i + 8 = omega arith in
        ap (λ (n : ℕ). drop n after) e ∙ behind ∙ further 6 (at + 6 * i + 8) (omega arith) ∙ ap (λ (n : ℕ). drop n before) (sym e);
    long = long ∙ l.long;
  }

  -- and the last one
  pub lay-end : (after : List ℕ) (n : ℕ) → n ≡ i + 1 → after ≡ take (at + 6 * i) out ++ low6 (get_or ws i 0) ++ drop (at + 6 * i + 6) out
      → after ≡ take at before ++ lows n ws ++ drop (at + 6 * n) before
  lay-end after n last put =
      let e : at + 6 * i + 6 ≡ at + 6 * n = omega (arith, last) in
      put ∙ (λ j. (l.front j ++ low6 (get_or ws i 0)) ++ further 4 (at + 6 * i + 6) (omega arith) j)
      ∙ (λ j. more j ++ drop (e j) before) ∙ ap (λ (m : ℕ). take at before ++ lows m ws ++ drop (at + 6 * n) before) (sym last)
