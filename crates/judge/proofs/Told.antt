-- What a call answers is told by what its contract speaks of, so that two results that a contract allows are equal.
-- Assumes nothing.
use Prim.Native.Nat.{ℕ}
use mathlib.Core.List.{List}
use mathlib.Core.Path.{◌≡◌, sym, ap}
use Rattle.std.specs.Prelude.{Result, Ok, Err}
use Rattle.laws.proofs.Unique.{Unique}
use Rattle.refusals.specs.declared.Refusal.{Refusal}
use Rattle.refusals.proofs.Answers.{never_0, number_one}
use Rattle.judge.specs.declared.State.{State}
use Rattle.judge.specs.declared.Taken.{Taken}
use Rattle.judge.specs.declared.Closed.{Closed}
use Rattle.judge.specs.Answers.{OpenAnswer, SectionAnswer, CloseAnswer, opened_as, taken_as, closed_as}
use Rattle.judge.specs.Promises.{Open, Section, Close}
use Rattle.judge.proofs.Answers.{open-unique, section-unique, close-unique}

pub opened-told : (a b : Result State Refusal) → opened_as a ≡ opened_as b → a ≡ b
opened-told (Ok s) (Ok t) e = λ i. Ok ((e i).state)
opened-told (Ok s) (Err r) e = absurd (never_0 r (sym (ap (λ (x : OpenAnswer). x.refused) e)))
opened-told (Err r) (Ok s) e = absurd (never_0 r (ap (λ (x : OpenAnswer). x.refused) e))
opened-told (Err q) (Err r) e = ap Err (number_one q r (ap (λ (x : OpenAnswer). x.refused) e))

pub taken-told : (s : State) (a b : Result Taken Refusal) → taken_as s a ≡ taken_as s b → a ≡ b
taken-told s (Ok t) (Ok u) e = λ i. Ok (record { state = (e i).state; verdict = (e i).verdict; second = (e i).second })
taken-told s (Ok t) (Err r) e = absurd (never_0 r (sym (ap (λ (x : SectionAnswer). x.refused) e)))
taken-told s (Err r) (Ok t) e = absurd (never_0 r (ap (λ (x : SectionAnswer). x.refused) e))
taken-told s (Err q) (Err r) e = ap Err (number_one q r (ap (λ (x : SectionAnswer). x.refused) e))

pub closed-told : (a b : Result Closed Refusal) → closed_as a ≡ closed_as b → a ≡ b
closed-told (Ok c) (Ok d) e = λ i. Ok (record { end = (e i).end; second = (e i).second })
closed-told (Ok c) (Err r) e = absurd (never_0 r (sym (ap (λ (x : CloseAnswer). x.refused) e)))
closed-told (Err r) (Ok c) e = absurd (never_0 r (ap (λ (x : CloseAnswer). x.refused) e))
closed-told (Err q) (Err r) e = ap Err (number_one q r (ap (λ (x : CloseAnswer). x.refused) e))

pub opened-one : (header : List ℕ) → Unique (λ (r : Result State Refusal). Open header (opened_as r))
opened-one header a b p q = opened-told a b (open-unique header _ _ p q)

pub taken-one : (s : State) (bytes : List ℕ) → Unique (λ (r : Result Taken Refusal). Section s bytes (taken_as s r))
taken-one s bytes a b p q = taken-told s a b (section-unique s bytes _ _ p q)

pub closed-one : (s : State) (end : ℕ) → Unique (λ (r : Result Closed Refusal). Close s end (closed_as r))
closed-one s end a b p q = closed-told a b (close-unique s end _ _ p q)
