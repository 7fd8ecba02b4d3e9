-- The moved recording in the lent bytes: the header in front, the records behind it, and then what stood there.
-- Assumes nothing.
use Rattle.std.proofs.Common.{◌≡◌, ℕ, ◌+◌, ◌-◌, ◌*◌, ◌/◌, ◌<◌, ◌≤◌, false, List, [], ◌++◌, length, take, drop, sym, refl, ap, ◌∙◌, append_assoc, append-nil, arith, length-append, length-drop, drop_of_length-le, take_all, drop-drop, take_at, drop_at}
use lib.Seq.{take-length}
use Rattle.laws.specs.Lent.{Wrote}
use Rattle.laws.proofs.Lent.{refuses, writes}
use Rattle.wide.specs.declared.Part.{Part}
use Rattle.wide.specs.Moved.{widen, narrow}
use Rattle.wide.specs.Promises.{Narrowed, Widened}
use Rattle.wide.proofs.Moving.{length-widen, length-narrow}
use Rattle.moves.specs.Moves.{headed, widened, narrowed, widen_refusal, narrow_refusal, code_of}
use Rattle.moves.proofs.Going.{lent, goes, code-refused, code-nine, code-none}

pub six : (e : ℕ) (bs : List ℕ) → length (headed e bs) ≡ 6
unfolding headed
six e bs = refl

-- how long the moved recording is
pub length-widened : (bs : List ℕ) → length (widened bs) ≡ 6 + 8 * ((length bs - 6) / 6)
length-widened bs =
    length-append (headed 2 bs) (widen (drop 6 bs))
    ∙ (λ i. six 2 bs i + (length-widen (drop 6 bs) ∙ ap (λ (n : ℕ). 8 * (n / 6)) (length-drop 6 bs)) i)

pub length-narrowed : (bs : List ℕ) → length (narrowed bs) ≡ 6 + 6 * ((length bs - 6) / 8)
length-narrowed bs =
    length-append (headed 1 bs) (narrow false (drop 6 bs))
    ∙ (λ i. six 1 bs i + (length-narrow false (drop 6 bs) ∙ ap (λ (n : ℕ). 6 * (n / 8)) (length-drop 6 bs)) i)

-- a header and the records behind it
module _ (head before mid : List ℕ) (heads : length head ≡ 6) (lies : mid ≡ head ++ drop 6 before) where
  lent-behind : take (length mid - 6) (drop 6 mid) ≡ drop 6 before
  lent-behind = lent mid ∙ ap (drop 6) lies ∙ drop_at head (drop 6 before) 6 heads

  pub behind-header : (moved part : List ℕ) (n : ℕ) → n ≡ length moved → part ≡ moved ++ drop n (take (length mid - 6) (drop 6 mid))
      → take 6 mid ++ (part ++ drop (length mid - 6) (drop 6 mid)) ≡ (head ++ moved) ++ drop (length (head ++ moved)) before
  behind-header moved part n count is =
      let far : 6 + n ≡ length (head ++ moved) = omega (arith, count, heads, length-append head moved) in
      (λ i. front i ++ (whole i ++ none i)) ∙ ap (λ xs. head ++ xs) (append-nil (moved ++ drop n (drop 6 before))) ∙ sym (append_assoc head moved (drop n (drop 6 before)))
      ∙ ap (λ xs. (head ++ moved) ++ xs) (drop-drop n 6 before ∙ ap (λ (k : ℕ). drop k before) far)
    where
      front : take 6 mid ≡ head
      front = ap (take 6) lies ∙ take_at head (drop 6 before) 6 heads

      whole : part ≡ moved ++ drop n (drop 6 before)
      whole = is ∙ ap (λ xs. moved ++ drop n xs) lent-behind

      none : drop (length mid - 6) (drop 6 mid) ≡ []
      none = let all : length (drop 6 mid) ≤ length mid - 6 = omega (arith, length-drop 6 mid) in drop_of_length-le (drop 6 mid) all

-- ── What the two functions leave ────────────────────────────────────────────────────────────

-- a refusal leaves the bytes
module _ (n : ℕ) (moved before : List ℕ) (r : ℕ) (is : r ≡ n) where
  pub move-refused : (r ≡ 0 → ⊥) → Wrote (code_of n moved (length before)) moved before r before
  move-refused some = refuses _ _ _ r (is ∙ code-refused n moved (length before) (λ z. some (is ∙ z))) some

  pub no_room : r ≡ 0 → (k : ℕ) → length moved ≡ k → length before < k → Wrote (code_of n moved (length before)) moved before 9 before
  no_room none k long few = refuses _ _ _ 9 (code-nine n moved (length before) (sym is ∙ none) (omega (arith, long, few))) (λ z. omega arith)

module _ (bs before mid part : List ℕ) where
  -- all records are lent, where there is room for what they become
  all-lent : (e size moved : ℕ) → 6 ≤ length before → mid ≡ headed e bs ++ drop 6 before → length bs - 6 ≤ size * ((length before - 6) / moved)
      → take (size * (length (take (length mid - 6) (drop 6 mid)) / moved)) (take (length bs - 6) (drop 6 bs)) ≡ drop 6 bs
  all-lent e size moved room lies enough =
      (λ i. take (size * (length-lent i / moved)) (lent bs i)) ∙ take_all (size * ((length before - 6) / moved)) (drop 6 bs) (omega (arith, length-drop 6 bs))
    where
      length-lent : length (take (length mid - 6) (drop 6 mid)) ≡ length before - 6
      length-lent = ap length (lent-behind (headed e bs) before mid (six e bs) lies) ∙ length-drop 6 before

  pub widen-left : (r : ℕ) → widen_refusal bs ≡ 0 → 6 + 8 * ((length bs - 6) / 6) ≤ length before → mid ≡ headed 2 bs ++ drop 6 before
      → Widened (take (6 * (length (take (length mid - 6) (drop 6 mid)) / 8)) (take (length bs - 6) (drop 6 bs))) (take (length mid - 6) (drop 6 mid)) r part
      → Wrote (code_of (widen_refusal bs) (widened bs) (length before)) (widened bs) before 0 (take 6 mid ++ (part ++ drop (length mid - 6) (drop 6 mid)))
  widen-left r none room lies w =
      let g = goes 1 6 _ bs none in
      let is = all-lent 2 6 8 (omega arith) lies (omega (arith, g.whole, length-drop 6 bs)) in
      writes _ _ _ (widened bs) _ (code-none _ _ _ none (omega (arith, length-widened bs, room))) refl
      (behind-header (headed 2 bs) before mid (six 2 bs) lies (widen (drop 6 bs)) part r (w.count ∙ ap (λ xs. length (widen xs)) is)
      (w.out ∙ ap (λ xs. widen xs ++ drop r (take (length mid - 6) (drop 6 mid))) is)
      ∙ ap (λ xs. xs ++ drop (length (widened bs)) before) (sym (take-length (widened bs))))

  pub narrow-left : (r : Part) → narrow_refusal bs ≡ 0 → 6 + 6 * ((length bs - 6) / 8) ≤ length before → mid ≡ headed 1 bs ++ drop 6 before
      → Narrowed (take (8 * (length (take (length mid - 6) (drop 6 mid)) / 6)) (take (length bs - 6) (drop 6 bs))) false (take (length mid - 6) (drop 6 mid)) r part
      → Wrote (code_of (narrow_refusal bs) (narrowed bs) (length before)) (narrowed bs) before 0 (take 6 mid ++ (part ++ drop (length mid - 6) (drop 6 mid)))
  narrow-left r none room lies w =
      let g = goes 2 8 _ bs none in
      let is = all-lent 1 8 6 (omega arith) lies (omega (arith, g.whole, length-drop 6 bs)) in
      writes _ _ _ (narrowed bs) _ (code-none _ _ _ none (omega (arith, length-narrowed bs, room))) refl
      (behind-header (headed 1 bs) before mid (six 1 bs) lies (narrow false (drop 6 bs)) part r.len (w.count ∙ ap (λ xs. length (narrow false xs)) is)
      (w.out ∙ ap (λ xs. narrow false xs ++ drop r.len (take (length mid - 6) (drop 6 mid))) is)
      ∙ ap (λ xs. xs ++ drop (length (narrowed bs)) before) (sym (take-length (narrowed bs))))
