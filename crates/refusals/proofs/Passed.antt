-- What a `?` hands on: the refusal that came, or the one that it is turned into.
-- Assumes nothing.
use Rattle.std.proofs.Common.{Result, Ok, Err, ◌≡◌, refl, ap}
use Rattle.std.specs.Result.{IsErrAnd, result_err}
use Rattle.refusals.specs.declared.Refusal.{Refusal}
use Rattle.refusals.specs.Refusals.{number_in, number_if}

pub passed : {A : Type 0} (r : Result A Refusal) (e : Refusal) → IsErrAnd r (λ y. y ≡ e) → r ≡ Err e
passed (Ok x) e h = absurd h
passed (Err y) e h = ap Err h

-- a call's refusal, kept, has the call's number
pub kept-number : {A : Type 0} (r : Result A Refusal) → number_if (result_err r) ≡ number_in r
kept-number (Ok x) = refl
kept-number (Err e) = refl
