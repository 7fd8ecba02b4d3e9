-- One answer for each public contract.
-- Assumes nothing.
use Prim.Native.Nat.{ℕ, ◌-◌}
use mathlib.Core.Bool.{Bool}
use mathlib.Core.List.{List}
use Rattle.laws.proofs.Unique.{Unique, one_answer}
use Rattle.answers.specs.declared.Break.{Break}
use Rattle.records.specs.declared.Command.{Command}
use Rattle.records.specs.declared.Command.TheVariants.{Srx}
use Rattle.records.specs.declared.Record.{Record}
use Rattle.records.specs.Command.{is_a}
use Rattle.chip.specs.declared.Chip.{Chip}
use Rattle.running.specs.declared.Kept.{Kept}
use Rattle.running.specs.declared.Shared.{Shared}
use Rattle.running.specs.declared.Written.{Written}
use Rattle.running.specs.declared.Mark.{Mark}
use Rattle.running.specs.Marks.{needing}
use Rattle.answers.specs.Answer.{or_else, lowest}
use Rattle.running.specs.Down as down
use Rattle.running.specs.Breaks.{status_of, wants, barred_by, barred_at, speaks_of_all, rule3, rule23, when_is, spacings, joined}
use Rattle.kept.specs.Promises.{Status, OrElse, SpeaksOfAll, Barred, FirstBarred, Rule3, Joined, Since, Needing, Spacings, LastRules, Rule26, Rule27, ExitRules}

pub since-unique : (e at : ℕ) → Unique (Since e at)
since-unique e at = one_answer (e - at)

pub status-unique : (k : Kept) (t : ℕ) → Unique (Status k t)
status-unique k t = one_answer (status_of k t)

pub barred-unique : (c : Command) (k : Kept) (e : ℕ) → Unique (Barred c k e)
barred-unique c k e = one_answer (barred_by (wants c) (status_of k e))

pub first-barred-unique : (c : Command) (ks : List Kept) (e : ℕ) → Unique (FirstBarred c ks e)
first-barred-unique c ks e = one_answer (lowest (barred_at c ks e) 8)

pub speaks-of-all-unique : (c : Command) (r : Record) → Unique (SpeaksOfAll c r)
speaks-of-all-unique c r = one_answer (speaks_of_all c r)

pub rule3-unique : (C : Chip) (c : Command) (r : Record) (w : Written) → Unique (Rule3 C c r w)
rule3-unique C c r w = one_answer (rule3 C c r w)

pub spacings-unique : (C : Chip) (c : Command) (r : Record) (e : ℕ) (k : Kept) (s : Shared) → Unique (Spacings C c r e k s)
spacings-unique C c r e k s = one_answer (spacings C c r e k s)

pub last-rules-unique : (c : Command) (e : ℕ) (s : Shared) → Unique (LastRules c e s)
last-rules-unique c e s = one_answer (when_is (is_a Srx c) 22 e s.rests.slept (rule23 c s))

pub or-else-unique : (a b : Break) → Unique (OrElse a b)
or-else-unique a b = one_answer (or_else a b)

pub joined-unique : (c : Command) (two three spacing : Break) → Unique (Joined c two three spacing)
joined-unique c two three spacing = one_answer (joined c two three spacing)

pub needing-unique : (n : ℕ) (m : Mark) → Unique (Needing n m)
needing-unique n m = one_answer (needing n m)

pub rule26-unique : (C : Chip) (c : Command) (ks : List Kept) (s : Shared) (e : ℕ) → Unique (Rule26 C c ks s e)
rule26-unique C c ks s e = one_answer (down.rule26 C c ks s e)

pub rule27-unique : (x : Bool) (e : ℕ) (s : Shared) → Unique (Rule27 x e s)
rule27-unique x e s = one_answer (down.rule27 x e s)

pub exit-rules-unique : (c : Command) (e : ℕ) (s : Shared) → Unique (ExitRules c e s)
exit-rules-unique c e s = one_answer (down.exit_rules c e s)
