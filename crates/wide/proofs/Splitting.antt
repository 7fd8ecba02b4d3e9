-- What lies in front of lent bytes, and what both ranks see there.
-- Assumes nothing.
use Prim.Native.Nat.{ℕ, ◌*◌, ◌-◌, ◌/◌, ◌<◌}
use native.Mathlib.Omega.{arith}
use mathlib.Core.Bool.{Bool, true, false}
use mathlib.Core.List.{List, ◌++◌}
use mathlib.Core.Path.{◌≡◌, sym, ap, ◌∙◌, subst}
use lib.ListN.{length, take, drop, length-append, length-drop}
use lib.Seq.{take_at, take_all}
use Rattle.wide.specs.declared.Part.{Part}
use Rattle.wide.specs.Moved.{narrow}
use Rattle.wide.specs.Promises.{Holds, Narrowed, Split, SplitPart}
use Rattle.wide.proofs.Loops.{none_left}

holds : (n : ℕ) (front behind xs : List ℕ) → n ≡ length front → xs ≡ front ++ behind → Holds n xs
holds n front behind xs e is =
    (omega (arith, e, ap length is, length-append front behind), e ∙ ap length (sym (ap (take n) is ∙ take_at front behind n (sym e))))

-- so many bytes are there
pub holding : {part before after : List ℕ} {second : Bool} {r : Part} → Narrowed part second before r after
    → Holds r.len after × Narrowed part second before r after
holding {part} {before} {after} {second} {r} w =
    (holds r.len (narrow second part) (drop r.len before) after w.count w.out, w)

-- 1,000 records at most, of lent bytes of that length
pub thousand : (bs : List ℕ) (second : Bool) (before : List ℕ) (r : Part) (after : List ℕ) → length before ≡ 6000
    → Narrowed (take (8 * (length before / 6)) bs) second before r after → Narrowed (take 8000 bs) second before r after
thousand bs second before r after e = subst (λ (n : ℕ). Narrowed (take (8 * (n / 6)) bs) second before r after) e

-- from a place on
pub splits : (bs : List ℕ) (at : ℕ) {before before' after after' : List ℕ} {r : Part}
    → Split (take 8000 (take (length bs - at) (drop at bs))) before before' r after after' → SplitPart bs at before before' r after after'
splits bs at {before} {before'} {after} {after'} {r} w =
    let v = subst (λ xs. Split (take 8000 xs) before before' r after after') (take_all (length bs - at) (drop at bs) (omega (arith, length-drop at bs))) w in
    ((holding v.first).0, (holding v.second).0, v)

-- nothing stands from a place beyond the end on
pub splits-none : (bs : List ℕ) (at : ℕ) (before before' : List ℕ) → length bs < at
    → SplitPart bs at before before' (record { len = 0; spare = false }) before before'
splits-none bs at before before' beyond =
    let one = none_left bs at false before beyond in
    let two = none_left bs at true before' beyond in
    ((holding one).0, (holding two).0, record { first = one; second = two })
