-- What each public function answers, by name: cited by its `ensures`, and by its line in `proofs/Answers.antt` that two answers are
-- equal.
-- Assumes nothing.
use Rattle.std.specs.Prelude.{ℕ, ◌-◌, Bool, List, ◌≡◌}
use Rattle.records.specs.declared.Record.{Record}
use Rattle.records.specs.declared.Command.{Command}
use Rattle.records.specs.declared.Command.TheVariants.{Srx}
use Rattle.records.specs.Command.{is_a}
use Rattle.chip.specs.declared.Chip.{Chip}
use Rattle.answers.specs.declared.Bank.{Bank}
use Rattle.answers.specs.declared.Break.{Break}
use Rattle.answers.specs.Answer.{or_else, lowest}
use Rattle.running.specs.declared.Kept.{Kept}
use Rattle.running.specs.declared.Mark.{Mark}
use Rattle.running.specs.declared.Shared.{Shared}
use Rattle.running.specs.declared.Written.{Written}
use Rattle.running.specs.Marks.{needing}
use Rattle.running.specs.Down as down
use Rattle.running.specs.Breaks.{status_of, wants, barred_by, barred_at, speaks_of_all, rule3, rule23, when_is, spacings, joined}

-- `status`
abbrev pub Status : (k : Kept) (t : ℕ) (r : Bank) → Type 0
Status k t r = r ≡ status_of k t

-- `or_else`
abbrev pub OrElse : (a b : Break) (x : Break) → Type 0
OrElse a b x = x ≡ or_else a b

-- `speaks_of_all`
abbrev pub SpeaksOfAll : (c : Command) (r : Record) (x : Bool) → Type 0
SpeaksOfAll c r x = x ≡ speaks_of_all c r

-- `barred`: rule 2 of one bank
abbrev pub Barred : (c : Command) (k : Kept) (e : ℕ) (x : Break) → Type 0
Barred c k e x = x ≡ barred_by (wants c) (status_of k e)

-- `first_barred`: rule 2 of all banks
abbrev pub FirstBarred : (c : Command) (banks : List Kept) (e : ℕ) (x : Break) → Type 0
FirstBarred c banks e x = x ≡ lowest (barred_at c banks e) 8

-- `rule3`
abbrev pub Rule3 : (chip : Chip) (c : Command) (r : Record) (w : Written) (x : Break) → Type 0
Rule3 chip c r w x = x ≡ rule3 chip c r w

-- `joined`
abbrev pub Joined : (c : Command) (two three spacing : Break) (x : Break) → Type 0
Joined c two three spacing x = x ≡ joined c two three spacing

-- `since`; 0 where the edge `at` is not before e
abbrev pub Since : (e at : ℕ) (r : ℕ) → Type 0
Since e at r = r ≡ e - at

-- `needing`
abbrev pub Needing : (need : ℕ) (m : Mark) (r : Mark) → Type 0
Needing need m r = r ≡ needing need m

-- `spacings`
abbrev pub Spacings : (chip : Chip) (c : Command) (r : Record) (e : ℕ) (k : Kept) (s : Shared) (x : Break) → Type 0
Spacings chip c r e k s x = x ≡ spacings chip c r e k s

-- `last_rules`: 22 and 23
abbrev pub LastRules : (c : Command) (e : ℕ) (s : Shared) (x : Break) → Type 0
LastRules c e s x = x ≡ when_is (is_a Srx c) 22 e s.rests.slept (rule23 c s)

-- `rule26`
abbrev pub Rule26 : (chip : Chip) (c : Command) (banks : List Kept) (s : Shared) (e : ℕ) (x : Break) → Type 0
Rule26 chip c banks s e x = x ≡ down.rule26 chip c banks s e

-- `rule27`
abbrev pub Rule27 : (changes : Bool) (e : ℕ) (s : Shared) (x : Break) → Type 0
Rule27 changes e s x = x ≡ down.rule27 changes e s

-- `exit_rules`: 29 and 30
abbrev pub ExitRules : (c : Command) (e : ℕ) (s : Shared) (x : Break) → Type 0
ExitRules c e s x = x ≡ down.exit_rules c e s
