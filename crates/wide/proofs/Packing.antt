-- The moved word, worked out from the word at once: what a rank sees of it, and `widened` of src/moved.rt.
-- Assumes nothing.
use Prim.Native.Nat.{ℕ, ◌+◌, ◌*◌, ◌/◌, ◌%◌, ◌^◌, ◌<◌}
use native.Mathlib.Nat.{div-div-eq-div-mul, div-one}
use native.Mathlib.Omega.{arith}
use mathlib.Core.Bool.{Bool, true, false, cond}
use mathlib.Core.Path.{◌≡◌}
use lib.Dec.{eqb}
use Rattle.records.specs.Record as old
use Rattle.wide.specs.Wide.{field, fields_of, level, rank_of}
use Rattle.wide.specs.Moved.{packed, packed_wide, widened}
use Rattle.wide.proofs.Words.{bit}

chosen : (second : Bool) (x y : ℕ) → x < 2 → y < 2 → level (cond second (eqb x 1) (eqb y 1)) ≡ cond second x y
chosen true x y xl yl = bit x xl
chosen false x y xl yl = bit y yl

-- RAS to A
together : (w : ℕ) → w / 4294967296 % 8 * 2 ^ 19 + w / 536870912 % 8 * 2 ^ 16 + w / 8192 % 65536 ≡ w / 8192 % 4194304
together w = rw (← div-div-eq-div-mul w 536870912 8, ← div-div-eq-div-mul w 8192 65536) (omega arith)

narrowed-sum : (s t c k p b a l : ℕ) → t ≡ s → p * 2 ^ 19 + b * 2 ^ 16 + a ≡ l
    → s * 16777216 + c * 8388608 + k * 4194304 + l ≡ t * 2 ^ 24 + c * 2 ^ 23 + (k * 8 + p) * 2 ^ 19 + b * 2 ^ 16 + a
narrowed-sum s t c k p b a l e f = omega arith

pub narrowed_word : (w cs : ℕ) (second : Bool) → w < 18446744073709551616 → cs ≡ cond second (field w 27 1) (field w 26 1)
    → w / 1099511627776 * 16777216 + w / 274877906944 % 2 * 8388608 + cs * 4194304 + w / 8192 % 4194304 ≡ packed (rank_of second (fields_of w))
unfolding packed rank_of fields_of
narrowed_word w cs second small is =
    rw (is, bit (w / 274877906944 % 2) (omega arith), chosen second (w / 68719476736 % 2) (w / 137438953472 % 2) (omega arith) (omega arith))
    (narrowed-sum (w / 1099511627776) (w / 1099511627776 % 16777216) _ _ _ _ _ _ (omega arith) (together w))

-- CS, and RAS CAS WE
cs-in : (w : ℕ) → w / 524288 % 16 / 8 % 2 ≡ w / 4194304 % 2
cs-in w = rw (← div-div-eq-div-mul w 524288 8) (omega arith)

rest_in_lem : (w : ℕ) → w / 524288 % 16 % 8 * 2 ^ 19 + w / 65536 % 8 * 2 ^ 16 + w % 65536 ≡ w % 4194304
rest_in_lem w = rw (← div-div-eq-div-mul w 65536 8) (omega arith)

widened-sum : (s c k p b a l : ℕ) → p * 2 ^ 19 + b * 2 ^ 16 + a ≡ l
    → s * 1099511627776 + 618475290624 + c * 274877906944 + k * 137438953472 + l * 8192
    ≡ s * 2 ^ 40 + 1 * 2 ^ 39 + c * 2 ^ 38 + k * 2 ^ 37 + 1 * 2 ^ 36 + 0 * 2 ^ 35 + p * 2 ^ 32 + b * 2 ^ 29 + a * 2 ^ 13 + 0
widened-sum s c k p b a l e = omega arith

pub widened_word : (w : ℕ)
    → w / 16777216 % 16777216 * 1099511627776 + 618475290624 + w / 8388608 % 2 * 274877906944 + w / 4194304 % 2 * 137438953472
    + w % 4194304 * 8192
    ≡ packed_wide (widened (old.fields_of w))
unfolding packed_wide widened old.fields_of
widened_word w =
    rw (bit (w / 8388608 % 2) (omega arith), bit (w / 524288 % 16 / 8 % 2) (omega arith), cs-in w, div-one)
    (widened-sum _ _ _ _ _ _ _ (rest_in_lem w))
