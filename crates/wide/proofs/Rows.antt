-- A row of words: what each rank sees of so many records, word by word, and their bytes.
-- Assumes nothing.
use Prim.Native.Nat.{ℕ, zero, suc, ◌+◌, ◌*◌, ◌≤◌, ◌<◌}
use native.Mathlib.Numerals.{add-one}
use native.Mathlib.Omega.{arith}
use mathlib.Core.Bool.{Bool, true, false, cond, not, ◌||◌}
use mathlib.Core.List.{List, ◌++◌}
use mathlib.Core.Path.{◌≡◌, refl, sym, ap, ◌∙◌, subst}
use lib.Dec.{eqb}
use lib.ListN.{length, take, drop, set, get_or, length-set, length-drop}
use lib.Seq.{get_or-set_same, get_or-set_other, get_or-drop}
use borrow.Author.Tests.{eqb-true, eqb-false, ne_eqb}
use Rattle.wide.specs.Wide.{word64, word_at, wide_at, wides, rank_of, has_spare}
use Rattle.wide.specs.Moved.{packed, bytes6, narrow}
use Rattle.wide.specs.Low.{low6, lows, seen_low, spare_low, Turned, Looked}
use Rattle.wide.proofs.Loops.{one-narrow, one-spare, more-narrow, more-spare, Narrowing, narrow-row}
use Rattle.wide.proofs.Laying.{lows-more}

-- word by word, and so all bytes
pub lows-narrow : (bs ws : List ℕ) (second : Bool) (n : ℕ) → 8 * n ≤ length bs → n ≤ length ws
    → ((i : ℕ) → i < n → low6 (get_or ws i 0) ≡ bytes6 (packed (rank_of second (wide_at bs (8 * i))))) → lows n ws ≡ narrow second (take (8 * n) bs)
lows-narrow bs ws second zero there room each = refl
lows-narrow bs ws second (suc n) there room each =
    let next : n + 1 ≡ suc n = add-one n in
    let h : 8 * n + 8 * 1 ≤ length bs = omega arith in
    ap (λ (m : ℕ). lows m ws) (sym next) ∙ lows-more ws n (omega arith)
    ∙ (λ j. lows-narrow bs ws second n (omega arith) (omega arith) (λ i below. each i (omega arith)) j ++ each n (omega arith) j)
    ∙ ap (λ xs. narrow second (take (8 * n) bs) ++ xs) (sym (one-narrow second bs (8 * n) (omega arith)))
    ∙ sym (more-narrow bs n 1 h second) ∙ ap (λ (m : ℕ). narrow second (take (8 * m) bs)) next

-- ── Looked at one after the other ───────────────────────────────────────────────────────────

pub look-start : (bs one two : List ℕ) → length one ≡ 125 → length two ≡ 125 → Looked bs 0 one two 0
look-start bs one two a b = record { long = (a, b); first = λ i below. absurd (omega arith); second = λ i below. absurd (omega arith); seen = refl }

-- one word more
each_more : (bs ws : List ℕ) (second : Bool) (i v : ℕ) → i < length ws → low6 v ≡ bytes6 (packed (rank_of second (wide_at bs (8 * i))))
    → ((j : ℕ) → j < i → low6 (get_or ws j 0) ≡ bytes6 (packed (rank_of second (wide_at bs (8 * j)))))
    → (j : ℕ) → j < i + 1 → low6 (get_or (set ws i v) j 0) ≡ bytes6 (packed (rank_of second (wide_at bs (8 * j))))
each_more bs ws second i v there is each j below = go (eqb j i) refl
  where
    go : (b : Bool) → eqb j i ≡ b → low6 (get_or (set ws i v) j 0) ≡ bytes6 (packed (rank_of second (wide_at bs (8 * j))))
    go true e =
        let at : j ≡ i = eqb-true j i e in
        ap (λ (m : ℕ). low6 (get_or (set ws i v) m 0)) at ∙ ap low6 (get_or-set_same ws i v 0 there) ∙ is
        ∙ ap (λ (m : ℕ). bytes6 (packed (rank_of second (wide_at bs (8 * m))))) (sym at)
    go false e = ap low6 (get_or-set_other ws i j v 0 (eqb-false j i e)) ∙ each j (omega (arith, eqb-false j i e))

-- neither of two numbers is 0 just if their sum is not
sum-zero : (m n : ℕ) → not (eqb (m + n) 0) ≡ not (eqb m 0) || not (eqb n 0)
sum-zero zero n = let e : zero + n ≡ n = omega arith in ap (λ (k : ℕ). not (eqb k 0)) e
sum-zero (suc m) n = ap not (ne_eqb (suc m + n) 0 (λ z. omega arith)) ∙ sym (ap (λ b. not b || not (eqb n 0)) (ne_eqb (suc m) 0 (λ z. omega arith)))

-- the word from a place on
word-from : (bs : List ℕ) (at i : ℕ) → word_at (drop at bs) i ≡ word_at bs (at + i)
word-from bs at i = λ j. word64 (get_or-drop at bs i 0 j) (byte 1 j) (byte 2 j) (byte 3 j) (byte 4 j) (byte 5 j) (byte 6 j) (byte 7 j)
  where
    byte : (k : ℕ) → get_or (drop at bs) (i + k) 0 ≡ get_or bs (at + i + k) 0
    byte k = let e : at + (i + k) ≡ at + i + k = omega arith in get_or-drop at bs (i + k) 0 ∙ ap (λ (m : ℕ). get_or bs m 0) e

module _ (all : List ℕ) (at i : ℕ) (one two : List ℕ) (spare : ℕ) (l : Looked (drop at all) i one two spare) (there : at + 8 * i + 8 ≤ length all) (few : i < 125) where
  abbrev bs : List ℕ
  bs = drop at all

  room : 8 * i + 8 ≤ length bs
  room = omega (arith, length-drop at all)

  pub look-turn : (x v u z : ℕ) → Turned x (word_at all (at + 8 * i)) → v ≡ seen_low false x → u ≡ seen_low true x → z ≡ spare_low x
      → Looked bs (i + 1) (set one i v) (set two i u) (spare + z)
  look-turn x v u z turned a b s = record {
    long = (length-set one i v ∙ l.long.0, length-set two i u ∙ l.long.1);
    first = each_more bs one false i v (omega (arith, l.long.0)) (ap low6 a ∙ t.seen false) l.first;
    second = each_more bs two true i u (omega (arith, l.long.1)) (ap low6 b ∙ t.seen true) l.second;
    seen =
        let h : 8 * i + 8 * 1 ≤ length bs = omega (arith, room) in
        sum-zero spare z ∙ (λ j. l.seen j || not ((ap (λ (n : ℕ). eqb n 0) s ∙ t.spare) j))
        ∙ ap (λ c. has_spare (wides (take (8 * i) bs)) || c) (sym (one-spare bs (8 * i) room)) ∙ sym (more-spare bs i 1 h);
  }
    where
      t : Turned x (word_at bs (8 * i))
      t = subst (Turned x) (sym (word-from all at (8 * i))) turned

-- ── A row of records, narrowed ──────────────────────────────────────────────────────────────

module _ {bs : List ℕ} {second : Bool} {before out : List ℕ} {spare : Bool} {i : ℕ} (n : Narrowing bs second before out spare i)
    {k seen : ℕ} {one two : List ℕ} (l : Looked (drop (8 * i) bs) k one two seen) (there : 8 * i + 8 * k ≤ length bs) where
  pub row_laid : (ws : List ℕ) → k ≤ length ws
      → ((j : ℕ) → j < k → low6 (get_or ws j 0) ≡ bytes6 (packed (rank_of second (wide_at (drop (8 * i) bs) (8 * j)))))
      → {after : List ℕ} → after ≡ take (6 * i) out ++ lows k ws ++ drop (6 * i + 6 * k) out
      → Narrowing bs second before after (spare || not (eqb seen 0)) (i + k)
  row_laid ws long each {after} put =
      narrow-row bs second before out spare i n k there (lows k ws) (lows-narrow (drop (8 * i) bs) ws second k (omega (arith, length-drop (8 * i) bs)) long each)
      (not (eqb seen 0)) l.seen after put

-- the words of the first or the second rank
module _ {bs : List ℕ} {n seen : ℕ} {one two : List ℕ} (l : Looked bs n one two seen) where
  pub either-long : (second : Bool) → length (cond second two one) ≡ 125
  either-long true = l.long.1
  either-long false = l.long.0

  pub either-seen : (second : Bool) (i : ℕ) → i < n → low6 (get_or (cond second two one) i 0) ≡ bytes6 (packed (rank_of second (wide_at bs (8 * i))))
  either-seen true = l.second
  either-seen false = l.first
