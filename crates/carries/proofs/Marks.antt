-- Rules 2 to 23, asked of the views of the summary, are the rules asked of what the rules' summary keeps.
-- Assumes nothing.
use Prim.Native.Nat.{ℕ, ◌<◌}
use mathlib.Core.Path.{◌≡◌, refl, ap, ◌∙◌}
use mathlib.Core.Bool.{Bool}
use Rattle.laws.specs.Eight.{table}
use Rattle.records.specs.declared.Record.{Record}
use Rattle.records.specs.declared.Command.{Command}
use Rattle.records.specs.declared.Command.TheVariants.{Mrs, Ref, Pre, Act, Wr, Rd, Zq, Nop, Des, Sre, Srx, Low, Bad, Pde, Pdx}
use Rattle.chip.specs.declared.Chip.{Chip}
use Rattle.running.specs.declared.Kept.{Kept}
use Rattle.running.specs.declared.Shared.{Shared}
use Rattle.running.specs.Breaks.{spacings}
use Rattle.running.specs.Down.{rule26, rule27, exit_rules}
use Rattle.running.specs.Waits.{marks_for, wait_of}
use Rattle.edges.specs.Views.{kept_of, kepts_of, shared_of}
use Rattle.edges.specs.Says.{last_rules}
use Rattle.rules.specs.Past.{Past}
use Rattle.rules.proofs.Clean.{Clean}
use Rattle.rules.proofs.Summary.{kept, shared}
use Rattle.carries.proofs.Summary.{acts_of, banks_of, device_of}
use Rattle.carries.proofs.Views.{kept-view, kepts-view, acts-view, rests-view, mrs-view, regs-view, written-view}
use Rattle.carries.proofs.Latest.{read_view, wrote-view}
use Rattle.carries.proofs.Shut.{shut-view}

module _ (C : Chip) (p : Past) (h : Clean C p) where
  abbrev pub shared_in : Shared
  shared_in = shared_of C (banks_of C p) (acts_of p) (device_of C p)

  -- what does not look at the rest of what all banks share is the same of the views
  abbrev seen : Shared
  seen =
      record {
        now = 0;
        level = shared_in.level;
        acts = (shared C p).acts;
        rests = (shared C p).rests;
        debt = shared_in.debt;
        regs = (shared C p).regs;
        written = (shared C p).written;
        read = (shared C p).read;
        wrote = (shared C p).wrote;
        mrs = (shared C p).mrs;
        shut = (shared C p).shut;
      }

  shared_seen : shared_in ≡ seen
  unfolding shared_of shared
  shared_seen = λ i. record {
    now = 0;
    level = shared_in.level;
    acts = acts-view C p i;
    rests = rests-view C p i;
    debt = shared_in.debt;
    regs = regs-view C p i;
    written = written-view C p i;
    read = read_view C p i;
    wrote = wrote-view C p i;
    mrs = mrs-view C p i;
    shut = shut-view C p h i;
  }

  pub spacings-view : (c : Command) (r : Record) (e b : ℕ) → b < 8
      → spacings C c r e (kept_of C (banks_of C p) b) shared_in ≡ spacings C c r e (kept C p b) (shared C p)
  unfolding spacings
  spacings-view c r e b l = λ i. spacings C c r e (kept-view C p b l i) (shared_seen i)

  pub last_view : (c : Command) (e : ℕ) → last_rules c e shared_in ≡ last_rules c e (shared C p)
  last_view c e = ap (last_rules c e) shared_seen

  pub entry-view : (c : Command) (e : ℕ) → rule26 C c (kepts_of C (banks_of C p)) shared_in e ≡ rule26 C c (table (kept C p)) (shared C p) e
  unfolding rule26
  entry-view c e = λ i. rule26 C c (kepts-view C p i) (shared_seen i) e

  pub held-view : (x : Bool) (e : ℕ) → rule27 x e shared_in ≡ rule27 x e (shared C p)
  held-view x e = ap (rule27 x e) shared_seen

  pub exit_view : (c : Command) (e : ℕ) → exit_rules c e shared_in ≡ exit_rules c e (shared C p)
  unfolding exit_rules
  exit_view c e = ap (exit_rules c e) shared_seen

  wait-seen : (c : Command) (k : Kept) → wait_of C c k seen ≡ wait_of C c k (shared C p)
  unfolding wait_of marks_for
  wait-seen Mrs k = refl
  wait-seen Ref k = refl
  wait-seen Pre k = refl
  wait-seen Act k = refl
  wait-seen Wr k = refl
  wait-seen Rd k = refl
  wait-seen Zq k = refl
  wait-seen Nop k = refl
  wait-seen Des k = refl
  wait-seen Sre k = refl
  wait-seen Srx k = refl
  wait-seen Low k = refl
  wait-seen Bad k = refl
  wait-seen Pde k = refl
  wait-seen Pdx k = refl

  pub wait-view : (c : Command) (b : ℕ) → b < 8 → wait_of C c (kept_of C (banks_of C p) b) shared_in ≡ wait_of C c (kept C p b) (shared C p)
  wait-view c b l = (λ i. wait_of C c (kept-view C p b l i) (shared_seen i)) ∙ wait-seen c (kept C p b)
