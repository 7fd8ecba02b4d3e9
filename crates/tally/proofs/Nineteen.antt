-- Nineteen counts, one a kind: one of them raised, and their sum.
-- Assumes nothing.
use Rattle.std.proofs.Common.{◌≡◌, ℕ, zero, suc, ◌+◌, ◌<◌, ◌≤◌, Bool, true, false, cond, eqb, List, [], ◌∷◌, length, get_or, refl, arith}
use Rattle.records.specs.declared.Command.{Command}
use Rattle.records.specs.declared.Command.TheVariants.{Mrs, Ref, Pre, Act, Wr, Rd, Zq, Nop, Des, Sre, Srx, Low, Bad, Pde, Pdx}
use Rattle.tally.specs.Kinds.{kind_of}
use Rattle.tally.specs.Tally.{raised}
use Rattle.tally.specs.Counts.{nineteen, total}

-- every kind has a place
pub kind-below : (c : Command) (x : Bool) → kind_of c x < 19
kind-below Mrs x = omega arith
kind-below Ref x = omega arith
kind-below Pre true = omega arith
kind-below Pre false = omega arith
kind-below Act x = omega arith
kind-below Wr true = omega arith
kind-below Wr false = omega arith
kind-below Rd true = omega arith
kind-below Rd false = omega arith
kind-below Zq true = omega arith
kind-below Zq false = omega arith
kind-below Nop x = omega arith
kind-below Des x = omega arith
kind-below Sre x = omega arith
kind-below Srx x = omega arith
kind-below Low x = omega arith
kind-below Bad x = omega arith
kind-below Pde x = omega arith
kind-below Pdx x = omega arith

-- f, one more at k
abbrev pub one_more : (ℕ → ℕ) → (k j : ℕ) → ℕ
one_more f k j = cond (eqb k j) (f j + 1) (f j)

-- each place but k gains nothing
pub raised_at_lem : (k : ℕ) → k < 19 → (f : ℕ → ℕ) → raised (nineteen f) k ≡ nineteen (one_more f k)
unfolding nineteen
raised_at_lem zero h f = refl
raised_at_lem (suc zero) h f = refl
raised_at_lem (suc (suc zero)) h f = refl
raised_at_lem (suc (suc (suc zero))) h f = refl
raised_at_lem (suc (suc (suc (suc zero)))) h f = refl
raised_at_lem (suc (suc (suc (suc (suc zero))))) h f = refl
raised_at_lem (suc (suc (suc (suc (suc (suc zero)))))) h f = refl
raised_at_lem (suc (suc (suc (suc (suc (suc (suc zero))))))) h f = refl
raised_at_lem (suc (suc (suc (suc (suc (suc (suc (suc zero)))))))) h f = refl
raised_at_lem (suc (suc (suc (suc (suc (suc (suc (suc (suc zero))))))))) h f = refl
raised_at_lem (suc (suc (suc (suc (suc (suc (suc (suc (suc (suc zero)))))))))) h f = refl
raised_at_lem (suc (suc (suc (suc (suc (suc (suc (suc (suc (suc (suc zero))))))))))) h f = refl
raised_at_lem (suc (suc (suc (suc (suc (suc (suc (suc (suc (suc (suc (suc zero)))))))))))) h f = refl
raised_at_lem (suc (suc (suc (suc (suc (suc (suc (suc (suc (suc (suc (suc (suc zero))))))))))))) h f = refl
raised_at_lem (suc (suc (suc (suc (suc (suc (suc (suc (suc (suc (suc (suc (suc (suc zero)))))))))))))) h f = refl
raised_at_lem (suc (suc (suc (suc (suc (suc (suc (suc (suc (suc (suc (suc (suc (suc (suc zero))))))))))))))) h f = refl
raised_at_lem (suc (suc (suc (suc (suc (suc (suc (suc (suc (suc (suc (suc (suc (suc (suc (suc zero)))))))))))))))) h f = refl
raised_at_lem (suc (suc (suc (suc (suc (suc (suc (suc (suc (suc (suc (suc (suc (suc (suc (suc (suc zero))))))))))))))))) h f = refl
raised_at_lem (suc (suc (suc (suc (suc (suc (suc (suc (suc (suc (suc (suc (suc (suc (suc (suc (suc (suc zero)))))))))))))))))) h f = refl
raised_at_lem (suc (suc (suc (suc (suc (suc (suc (suc (suc (suc (suc (suc (suc (suc (suc (suc (suc (suc (suc n))))))))))))))))))) h f = absurd (omega arith)

-- the sum of the counts rises by one
pub total-raised : (ns : List ℕ) (k : ℕ) → k < length ns → total (raised ns k) ≡ total ns + 1
total-raised [] k h = absurd (omega arith)
total-raised (n ∷ ns) zero h = omega arith
total-raised (n ∷ ns) (suc k) h = omega (arith, total-raised ns k (omega arith))

-- no count is larger than the sum
pub below_total : (ns : List ℕ) (k : ℕ) → get_or ns k 0 ≤ total ns
below_total [] k = omega arith
below_total (n ∷ ns) zero = omega arith
below_total (n ∷ ns) (suc k) = omega (arith, below_total ns k)

-- the count at a place
pub at-nineteen : (f : ℕ → ℕ) (k : ℕ) → k < 19 → get_or (nineteen f) k 0 ≡ f k
unfolding nineteen
at-nineteen f zero h = refl
at-nineteen f (suc zero) h = refl
at-nineteen f (suc (suc zero)) h = refl
at-nineteen f (suc (suc (suc zero))) h = refl
at-nineteen f (suc (suc (suc (suc zero)))) h = refl
at-nineteen f (suc (suc (suc (suc (suc zero))))) h = refl
at-nineteen f (suc (suc (suc (suc (suc (suc zero)))))) h = refl
at-nineteen f (suc (suc (suc (suc (suc (suc (suc zero))))))) h = refl
at-nineteen f (suc (suc (suc (suc (suc (suc (suc (suc zero)))))))) h = refl
at-nineteen f (suc (suc (suc (suc (suc (suc (suc (suc (suc zero))))))))) h = refl
at-nineteen f (suc (suc (suc (suc (suc (suc (suc (suc (suc (suc zero)))))))))) h = refl
at-nineteen f (suc (suc (suc (suc (suc (suc (suc (suc (suc (suc (suc zero))))))))))) h = refl
at-nineteen f (suc (suc (suc (suc (suc (suc (suc (suc (suc (suc (suc (suc zero)))))))))))) h = refl
at-nineteen f (suc (suc (suc (suc (suc (suc (suc (suc (suc (suc (suc (suc (suc zero))))))))))))) h = refl
at-nineteen f (suc (suc (suc (suc (suc (suc (suc (suc (suc (suc (suc (suc (suc (suc zero)))))))))))))) h = refl
at-nineteen f (suc (suc (suc (suc (suc (suc (suc (suc (suc (suc (suc (suc (suc (suc (suc zero))))))))))))))) h = refl
at-nineteen f (suc (suc (suc (suc (suc (suc (suc (suc (suc (suc (suc (suc (suc (suc (suc (suc zero)))))))))))))))) h = refl
at-nineteen f (suc (suc (suc (suc (suc (suc (suc (suc (suc (suc (suc (suc (suc (suc (suc (suc (suc zero))))))))))))))))) h = refl
at-nineteen f (suc (suc (suc (suc (suc (suc (suc (suc (suc (suc (suc (suc (suc (suc (suc (suc (suc (suc zero)))))))))))))))))) h = refl
at-nineteen f (suc (suc (suc (suc (suc (suc (suc (suc (suc (suc (suc (suc (suc (suc (suc (suc (suc (suc (suc n))))))))))))))))))) h = absurd (omega arith)
