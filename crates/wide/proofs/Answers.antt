-- One answer for each public contract.
-- Assumes nothing.
use Prim.Native.Nat.{ℕ, ◌*◌, ◌/◌}
use mathlib.Core.Bool.{Bool}
use mathlib.Core.List.{List, ◌++◌}
use mathlib.Core.Path.{◌≡◌, sym, ap, ◌∙◌}
use lib.ListN.{length, take, drop}
use Rattle.laws.proofs.Unique.{Unique, one_answer}
use Rattle.records.specs.Record.{records, has_zero}
use Rattle.wide.specs.declared.Part.{Part}
use Rattle.wide.specs.declared.Seen.{Seen}
use Rattle.wide.specs.Wide.{wides}
use Rattle.wide.specs.Moved.{narrow, widen}
use Rattle.wide.specs.Seen.{seen_of}
use Rattle.wide.specs.Steps.{steps_seen}
use Rattle.wide.specs.Promises.{Narrowed, NarrowPart, SplitPart, NarrowRecords, WidenRecords, SeenIn, StepsIn, StepOfZero}

module _ {second : Bool} {before after after' : List ℕ} {r r' : Part} where
  same-narrow : {part : List ℕ} → Narrowed part second before r after → Narrowed part second before r' after' → (r ≡ r') × (after ≡ after')
  same-narrow {part} one other = (λ i. record { len = count i; spare = one_answer _ _ _ one.spare other.spare i }, one.out ∙ ap (λ (n : ℕ). narrow second part ++ drop n before) count ∙ sym other.out)
    where
      count : r.len ≡ r'.len
      count = one_answer _ _ _ one.count other.count

  pub narrow-part-unique : (bytes : List ℕ) (at : ℕ) → NarrowPart bytes at second before r after → NarrowPart bytes at second before r' after'
      → (r ≡ r') × (after ≡ after')
  narrow-part-unique bytes at one other = same-narrow one.1 other.1

  pub narrow-records-unique : (bytes : List ℕ) → NarrowRecords bytes second before r after → NarrowRecords bytes second before r' after'
      → (r ≡ r') × (after ≡ after')
  narrow-records-unique bytes one other = same-narrow one other

pub split-part-unique :
    (bytes : List ℕ) (at : ℕ) {before before' one one' two two' : List ℕ} {r r' : Part} → SplitPart bytes at before before' r one two
    → SplitPart bytes at before before' r' one' two' → (r ≡ r') × (one ≡ one') × (two ≡ two')
split-part-unique bytes at a b =
    let first = same-narrow a.2.first b.2.first in
    (first.0, first.1, (same-narrow a.2.second b.2.second).1)

pub widen-records-unique : (bytes : List ℕ) {before after after' : List ℕ} {r r' : ℕ} → WidenRecords bytes before r after → WidenRecords bytes before r' after'
    → (r ≡ r') × (after ≡ after')
widen-records-unique bytes {before} {after} {after'} {r} {r'} one other =
    let count : r ≡ r' = one_answer _ _ _ one.count other.count in
    (count, one.out ∙ ap (λ (n : ℕ). widen (take (6 * (length before / 8)) bytes) ++ drop n before) count ∙ sym other.out)

pub seen-unique : (s : Seen) (bytes : List ℕ) → Unique (SeenIn s bytes)
seen-unique s bytes = one_answer (seen_of s (wides bytes))

pub steps-unique : (bytes : List ℕ) → Unique (StepsIn bytes)
steps-unique bytes = one_answer (steps_seen (wides (take 8388608 bytes)))

pub zero-unique : (bytes : List ℕ) → Unique (StepOfZero bytes)
zero-unique bytes = one_answer (has_zero (records bytes))
