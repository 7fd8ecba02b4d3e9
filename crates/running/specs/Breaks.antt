-- What a record breaks, from what is kept: rules 1 to 23.
-- Assumes nothing.
use Rattle.std.specs.Prelude.{ℕ, Bool, cond, not, ◌&&◌, ◌||◌, List, eqb, leb, ltb, get_or}
use Rattle.answers.specs.declared.Break.{Break}
use Rattle.answers.specs.declared.Break.TheVariants.{Fine, Broken}
use Rattle.answers.specs.Answer.{or_else, lowest}
use Rattle.answers.specs.declared.Bank.{Bank}
use Rattle.answers.specs.declared.Bank.TheVariants.{Idle, Open, Closing}
use Rattle.records.specs.declared.Record.{Record}
use Rattle.records.specs.declared.Command.{Command}
use Rattle.records.specs.declared.Command.TheVariants.{Mrs, Ref, Pre, Act, Wr, Rd, Zq, Nop, Des, Sre, Srx, Low, Bad, Pde, Pdx}
use Rattle.records.specs.Command.{is_a, counts, a10, bank_in}
use Rattle.registers.specs.Allowed.{bad_bit, allowed}
use Rattle.chip.specs.declared.Chip.{Chip}
use Rattle.running.specs.declared.Mark.{Mark}
use Rattle.running.specs.declared.Kept.{Kept}
use Rattle.running.specs.declared.Shared.{Shared}
use Rattle.running.specs.declared.Written.{Written}
use Rattle.running.specs.Marks.{none, empty, needing, spaced, as10, as11, as13, as14, as19}

-- ── Rule 2 ──────────────────────────────────────────────────────────────────────────────────

-- the bank's status at an edge t after the latest record
unfoldable pub status_of : Kept → (t : ℕ) → Bank
status_of k t =
    cond (ltb k.shut.num k.acted.num) (Open k.acted.at k.acted.num k.row)
    (cond (leb k.shut.at t) Idle (Closing k.acted.at k.acted.num k.row))

-- what a command wants of a bank that it speaks of: 0 nothing, 1 idle, 2 open and not closing, 3 not closing
abbrev pub wants : Command → ℕ
wants Mrs = 1
wants Ref = 1
wants Pre = 3
wants Act = 1
wants Wr = 2
wants Rd = 2
wants Zq = 1
wants Nop = 0
wants Des = 0
wants Sre = 1
wants Srx = 0
wants Low = 0
wants Bad = 0
wants Pde = 0
wants Pdx = 0

abbrev pub two_if : Bool → (partner : ℕ) → Break
two_if x n = cond x (Broken 2 n 0 0) Fine

abbrev pub barred_by : (wanted : ℕ) → Bank → Break
barred_by w Idle = two_if (eqb w 2) 0
barred_by w (Open at num row) = two_if (eqb w 1) num
barred_by w (Closing at num row) = two_if (not (eqb w 0)) num

-- the command speaks of all banks
abbrev pub speaks_of_all : Command → Record → Bool
speaks_of_all c r = is_a Pre c && a10 r || (is_a Ref c || (is_a Mrs c || (is_a Zq c || is_a Sre c)))

abbrev pub barred_at : Command → List Kept → (e b : ℕ) → Break
barred_at c ks e b = barred_by (wants c) (status_of (get_or ks b empty) e)

unfoldable pub rule2 : Command → Record → List Kept → (e : ℕ) → Break
rule2 c r ks e = cond (speaks_of_all c r) (lowest (barred_at c ks e) 8) (barred_at c ks e (bank_in r))

-- ── Rule 3 ──────────────────────────────────────────────────────────────────────────────────

abbrev pub demand : Bool → (found : ℕ) → Break
demand x f = cond x Fine (Broken 3 0 0 f)

-- found is the bit of the field that is not allowed
abbrev pub mrs_allowed : Chip → Record → Break
mrs_allowed C r = demand (allowed C.header (bank_in r) r.a) (bad_bit C.header (bank_in r) r.a)

unfoldable pub rule3 : Chip → Command → Record → Written → Break
rule3 C c r w =
    cond (is_a Mrs c) (mrs_allowed C r)
    (cond (is_a Act c) (demand (w.w0 && (w.w1 && (w.w2 && w.w3))) 0)
    (cond (is_a Rd c) (demand w.dll 0) Fine))

-- ── Rules 4 to 23 ───────────────────────────────────────────────────────────────────────────

-- a check that is made where x holds
abbrev pub when_is : Bool → (k e : ℕ) → Mark → Break → Break
when_is x k e m otherwise = cond x (spaced k e m otherwise) otherwise

abbrev pub rule23 : Command → Shared → Break
rule23 c s =
    cond (is_a Sre c && ltb s.rests.refreshed.num s.rests.woke.num) (Broken 23 s.rests.woke.num 0 0) Fine

-- rules 15, 17, 18, 21, of a command that is no MRS
unfoldable pub waits : Chip → (e : ℕ) → Shared → Break → Break
waits C e s otherwise =
    spaced 15 e s.rests.refreshed (spaced 17 e (needing C.tmod s.mrs) (spaced 18 e s.rests.tuned (spaced 21 e s.rests.woke otherwise)))

-- k: the record's bank
unfoldable pub spacings : Chip → Command → Record → (e : ℕ) → Kept → Shared → Break
spacings C c r e k s =
    when_is (is_a Rd c || is_a Wr c) 4 e k.acted
    (when_is (is_a Act c) 5 e k.shut
    (when_is (is_a Ref c || (is_a Mrs c || (is_a Zq c || is_a Sre c))) 5 e s.shut
    (when_is (is_a Act c) 6 e (needing C.trc k.acted)
    (when_is (is_a Act c) 7 e (needing C.trrd (get_or s.acts 0 none))
    (when_is (is_a Act c) 8 e (needing C.tfaw (get_or s.acts 3 none))
    (when_is (is_a Pre c) 9 e (cond (a10 r) (get_or s.acts 0 none) (needing C.tras k.acted))
    (when_is (is_a Pre c) 10 e (cond (a10 r) (as10 s.read) k.read)
    (when_is (is_a Pre c) 11 e (cond (a10 r) (as11 s.wrote) k.wrote)
    (when_is (is_a Rd c) 12 e (needing 4 (as10 s.read))
    (when_is (is_a Wr c) 12 e (needing 4 (as11 s.wrote))
    (when_is (is_a Wr c) 13 e (as13 s.read)
    (when_is (is_a Rd c) 14 e (as14 s.wrote)
    (when_is (counts c) 15 e s.rests.refreshed
    (when_is (is_a Mrs c) 16 e s.mrs
    (when_is (counts c && not (is_a Mrs c)) 17 e (needing C.tmod s.mrs)
    (when_is (counts c) 18 e s.rests.tuned
    (when_is (is_a Mrs c || is_a Sre c) 19 e (as19 s.read)
    (when_is (is_a Rd c) 20 e s.rests.reset
    (when_is (counts c) 21 e s.rests.woke
    (when_is (is_a Srx c) 22 e s.rests.slept
    (rule23 c s)))))))))))))))))))))

abbrev pub rule1 : Command → Break
rule1 c = cond (is_a Bad c) (Broken 1 0 0 0) Fine

abbrev pub joined : Command → (two three spacing : Break) → Break
joined c two three spacing = or_else (rule1 c) (or_else two (or_else three spacing))
