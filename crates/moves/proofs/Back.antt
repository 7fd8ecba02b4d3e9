-- "There and back gives the same bytes, from either side", of whole recordings and of the two calls; and the way back is refused for no reason
-- but room: 02, Q-7.
-- Assumes nothing.
use Rattle.std.proofs.Common.{◌≡◌, ℕ, ◌%◌, ◌≤◌, Bool, true, false, cond, List, ◌++◌, map, length, take, drop, sym, refl, ap, ◌∙◌, arith, take-append-drop, take_at, drop_at}
use Rattle.laws.proofs.Lent.{success-writes}
use Rattle.records.specs.Record.{records, has_zero}
use Rattle.wide.specs.declared.Seen.{Seen}
use Rattle.wide.specs.Spread.{Bytes}
use Rattle.wide.specs.Wide.{wides, rank_of, has_spare, cannot_return}
use Rattle.wide.specs.Moved as moved
use Rattle.wide.specs.Seen.{seen_none, seen_of}
use Rattle.wide.proofs.Spreading.{bytes_drop}
use Rattle.wide.proofs.Moving.{length-widen, length-narrow, records-narrow, wides-widen}
use Rattle.wide.proofs.Returning.{rank-widened, narrow-widen, widen-narrow, widened-free}
use Rattle.moves.specs.Moves.{headed, widened, narrowed, widen_refusal, seen_refusal, narrow_refusal}
use Rattle.moves.specs.Promises.{Widen, Narrow}
use Rattle.moves.proofs.Going.{Goes, goes, goes_on, code-none, code-zero}
use Rattle.moves.proofs.Heads.{headed-again, opens-moved}
use Rattle.moves.proofs.Laying.{six}

no_zero : (x : Bool) → ◌≡◌ {A = ℕ} (cond x 6 0) 0 → x ≡ false
no_zero false z = refl
no_zero true z = absurd (omega arith)

none_seen : (s : Seen) → seen_refusal s ≡ 0 → (s.zero ≡ false) × ((s.spare ≡ false) × (s.stays ≡ false))
none_seen s z = go s.zero s.spare s.stays z
  where
    go : (x y w : Bool) → seen_refusal (record { zero = x; spare = y; stays = w }) ≡ 0 → (x ≡ false) × ((y ≡ false) × (w ≡ false))
    go true y w h = absurd (omega arith)
    go false true w h = absurd (omega arith)
    go false false true h = absurd (omega arith)
    go false false false h = (refl, (refl, refl))

-- ── From edition 1 ──────────────────────────────────────────────────────────────────────────

module _ (bs : List ℕ) (small : Bytes bs) (none : widen_refusal bs ≡ 0) where
  g1 : Goes 1 6 (cond (has_zero (records (drop 6 bs))) 6 0) bs
  g1 = goes 1 6 _ bs none

  behind-widened : drop 6 (widened bs) ≡ moved.widen (drop 6 bs)
  behind-widened = drop_at (headed 2 bs) (moved.widen (drop 6 bs)) 6 (six 2 bs)

  seen-widened : seen_refusal (seen_of seen_none (wides (moved.widen (drop 6 bs)))) ≡ 0
  seen-widened =
      let free = widened-free (records (drop 6 bs)) in
      rw (rank-widened (drop 6 bs), no_zero (has_zero (records (drop 6 bs))) g1.rest, wides-widen (drop 6 bs), free.0, free.1)

  pub widened-goes : narrow_refusal (widened bs) ≡ 0
  widened-goes = goes_on 2 8 _ (widened bs) (record {
    opens = opens-moved 1 bs small g1.opens 2 (moved.widen (drop 6 bs)) (omega arith) (omega arith);
    whole = ap (λ xs. length xs % 8) behind-widened ∙ omega (arith, length-widen (drop 6 bs));
    few = rw behind-widened (omega (arith, length-widen (drop 6 bs), g1.few));
    rest = ap (λ xs. seen_refusal (seen_of seen_none (wides xs))) behind-widened ∙ seen-widened;
  })

  pub widened-back : narrowed (widened bs) ≡ bs
  widened-back =
      (λ i. headed-again 1 bs small g1.opens 2 (moved.widen (drop 6 bs)) i
      ++ (ap (moved.narrow false) behind-widened ∙ narrow-widen (drop 6 bs) (bytes_drop 6 bs small) g1.whole) i)
      ∙ take-append-drop 6 bs

-- ── From edition 2 ──────────────────────────────────────────────────────────────────────────

module _ (bs : List ℕ) (small : Bytes bs) (none : narrow_refusal bs ≡ 0) where
  g2 : Goes 2 8 (seen_refusal (seen_of seen_none (wides (drop 6 bs)))) bs
  g2 = goes 2 8 _ bs none

  free : (has_zero (map (rank_of false) (wides (drop 6 bs))) ≡ false) × ((has_spare (wides (drop 6 bs)) ≡ false) × (cannot_return (wides (drop 6 bs)) ≡ false))
  free = none_seen _ g2.rest

  behind-narrowed : drop 6 (narrowed bs) ≡ moved.narrow false (drop 6 bs)
  behind-narrowed = drop_at (headed 1 bs) (moved.narrow false (drop 6 bs)) 6 (six 1 bs)

  pub narrowed-goes : widen_refusal (narrowed bs) ≡ 0
  narrowed-goes = goes_on 1 6 _ (narrowed bs) (record {
    opens = opens-moved 2 bs small g2.opens 1 (moved.narrow false (drop 6 bs)) (omega arith) (omega arith);
    whole = ap (λ xs. length xs % 6) behind-narrowed ∙ omega (arith, length-narrow false (drop 6 bs));
    few = rw behind-narrowed (omega (arith, length-narrow false (drop 6 bs), g2.few));
    rest = ap (λ rs. cond (has_zero rs) 6 0) (ap records behind-narrowed ∙ records-narrow false (drop 6 bs)) ∙ rw free.0;
  })

  pub narrowed-back : widened (narrowed bs) ≡ bs
  narrowed-back =
      (λ i. headed-again 2 bs small g2.opens 1 (moved.narrow false (drop 6 bs)) i
      ++ (ap moved.widen behind-narrowed ∙ widen-narrow (drop 6 bs) (bytes_drop 6 bs small) g2.whole free.1.0 free.1.1) i)
      ∙ take-append-drop 6 bs

-- ── The two calls ───────────────────────────────────────────────────────────────────────────

-- a move that answers 0, and then the other on the bytes that it wrote: it answers 0 and writes the bytes of the start
module _ (bs : List ℕ) (small : Bytes bs) (before after before' after' : List ℕ) (r : ℕ) (room : length bs ≤ length before') where
  pub widen-then-narrow : Widen bs before 0 after → Narrow (take (length (widened bs)) after) before' r after'
      → (r ≡ 0) × (after' ≡ bs ++ drop (length bs) before')
  widen-then-narrow call then =
      let none = code-zero (widen_refusal bs) (widened bs) (length before) (sym call.result) in
      let wrote = ap (take (length (widened bs))) (success-writes _ _ _ 0 after call refl) ∙ take_at (widened bs) (drop (length (widened bs)) before) (length (widened bs)) refl in
      let back = widened-back bs small none in
      let next : Narrow (widened bs) before' r after' = rw wrote at then in
      let zero : r ≡ 0 = next.result ∙ sym (code-none _ (narrowed (widened bs)) (length before') (widened-goes bs small none) (rw back room)) in
      (zero, success-writes _ _ _ r after' next zero ∙ ap (λ xs. xs ++ drop (length xs) before') back)

  pub narrow-then-widen : Narrow bs before 0 after → Widen (take (length (narrowed bs)) after) before' r after'
      → (r ≡ 0) × (after' ≡ bs ++ drop (length bs) before')
  narrow-then-widen call then =
      let none = code-zero (narrow_refusal bs) (narrowed bs) (length before) (sym call.result) in
      let wrote = ap (take (length (narrowed bs))) (success-writes _ _ _ 0 after call refl) ∙ take_at (narrowed bs) (drop (length (narrowed bs)) before) (length (narrowed bs)) refl in
      let back = narrowed-back bs small none in
      let next : Widen (narrowed bs) before' r after' = rw wrote at then in
      let zero : r ≡ 0 = next.result ∙ sym (code-none _ (widened (narrowed bs)) (length before') (narrowed-goes bs small none) (rw back room)) in
      (zero, success-writes _ _ _ r after' next zero ∙ ap (λ xs. xs ++ drop (length xs) before') back)
