-- Texts put one behind the other are one text.
-- Assumes nothing.
use Prim.Native.Nat.{ℕ, ◌+◌, ◌-◌, ◌≤◌}
use native.Mathlib.Nat.{zero-add}
use native.Mathlib.Omega.{arith}
use mathlib.Core.Path.{◌≡◌, sym, ap, ◌∙◌}
use mathlib.Core.List.{List, ◌++◌, append_assoc}
use lib.ListN.{length, take, drop, length-append}
use lib.Seq.{length-take-le, take-append_seam, take_at, drop-append-add, drop-drop}
use Rattle.io.specs.Counts.{IsPrefixLen}
use Rattle.laws.proofs.Lent.{pasted}
use Rattle.lines.specs.Line.{Printed}
use Rattle.lines.specs.Parts.{Put}

-- a text copied into the part from `at` on
pub copied : (text before : List ℕ) (at : ℕ) {n : ℕ} {part : List ℕ} → n ≡ length text → at ≤ length before
    → part ≡ take (length text) text ++ drop (length text) (take (length before - at) (drop at before))
    → Put text at before (at + n) (take at before ++ (part ++ drop (length before - at) (drop at before)))
copied text before at {n} {part} count fits is = record { place = ap (λ (k : ℕ). at + k) count; out = pasted text before at is }

module _ {xs ys before middle after : List ℕ} {at r s : ℕ} where
  -- one text, and the next where it ends
  pub then : Put xs at before r middle → Put ys r middle s after → at ≤ length before → Put (xs ++ ys) at before s after
  then one next fits = record { place = place; out = whole }
    where
      front : List ℕ
      front = take at before ++ xs

      there : r ≡ length front
      there = one.place ∙ sym (length-append (take at before) xs ∙ ap (λ (k : ℕ). k + length xs) (length-take-le at before fits))

      place : s ≡ at + length (xs ++ ys)
      place = omega (arith, one.place, next.place, length-append xs ys)

      kept : take r middle ≡ front
      kept = rw one.out (take_at front _ r (sym there))

      behind : drop (r + length ys) middle ≡ drop (at + length (xs ++ ys)) before
      behind =
          let more : at + length xs + length ys ≡ at + length (xs ++ ys) = omega (arith, length-append xs ys) in
          rw (one.out, there, drop-append-add, drop-drop, more)

      whole : after ≡ take at before ++ (xs ++ ys) ++ drop (at + length (xs ++ ys)) before
      whole = next.out ∙ rw (kept, behind) (simp append_assoc)

-- the same from the start
pub more : {xs ys before middle after : List ℕ} {r s : ℕ} → Put xs 0 before r middle → Put ys r middle s after → Put (xs ++ ys) 0 before s after
more one next = then one next (omega arith)

module _ {text before after : List ℕ} {r : ℕ} where
  pub printed : Put text 0 before r after → Printed text before r after
  printed p = record { count = p.place ∙ zero-add (length text); out = p.out ∙ rw zero-add }

  pub at-start : Printed text before r after → Put text 0 before r after
  at-start p = record { place = p.count ∙ sym (zero-add (length text)); out = p.out ∙ rw zero-add }

  -- the count lies within the bytes, so that they can be lent from the start up to it
  pub counted : Printed text before r after → IsPrefixLen r after
  counted p =
      let behind = drop (length text) before in
      let start : take r after ≡ text = rw (p.out, p.count) (take-append_seam text behind) in
      (omega (arith, p.count, ap length p.out, length-append text behind), p.count ∙ sym (ap length start))
