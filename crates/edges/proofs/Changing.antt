-- A clean record of a seldom command: what the rank becomes.
-- Assumes nothing.
use Prim.Native.Nat.{ℕ, ◌+◌}
use mathlib.Core.Bool.{Bool, true, false, cond}
use mathlib.Core.Path.{◌≡◌, refl}
use Rattle.laws.specs.Eight.{table}
use Rattle.records.specs.declared.Record.{Record}
use Rattle.records.specs.declared.Command.{Command}
use Rattle.records.specs.declared.Command.TheVariants.{Mrs, Ref, Pre, Zq, Nop, Des, Sre, Srx, Low, Pde, Pdx}
use Rattle.records.specs.Command.{a10}
use Rattle.chip.specs.declared.Chip.{Chip}
use Rattle.chip.specs.declared.Regs.{Regs}
use Rattle.running.specs.Next.{resets_now, start_now}
use Rattle.edges.specs.declared.Banks.{Banks}
use Rattle.edges.specs.declared.Waits.{Waits}
use Rattle.edges.specs.declared.Acts.{Acts}
use Rattle.edges.specs.declared.Floor.{Floor}
use Rattle.edges.specs.declared.Rank.{Rank}
use Rattle.edges.specs.Asks.{four_back}
use Rattle.edges.specs.Next.{start_of, banks_next, acts_next, slow_now, device_next, debt_next}
use Rattle.edges.specs.Says.{command_in}
use Rattle.edges.specs.Step.{moved_of, regs_in}
use Rattle.edges.specs.Floors.{settled}
use Rattle.edges.specs.Ways.{raised_floor, rd_floor, shut_all_floor, floor_next}
use Rattle.edges.proofs.Raising.{Raises, waits-under}
use Rattle.edges.proofs.Ways.{Sized, nop-raises, des-raises, low-raises, pde-raises}
use Rattle.edges.proofs.Seldom.{holding, ref-raises, zq-raises, srx-raises, mrs-raises, reset-raises, pdx-raises, slow-raises, sre-raises, all-raises}

-- a command that concerns no single bank, and is not a bad one
pub data Whole : Command → Type 0 where
  is-ref : Whole Ref
  is-zq : Whole Zq
  is-mrs : Whole Mrs
  is-sre : Whole Sre
  is-srx : Whole Srx
  is-nop : Whole Nop
  is-des : Whole Des
  is-low : Whole Low
  is-pde : Whole Pde
  is-pdx : Whole Pdx

mrs-banks : (C : Chip) (r : Record) (e n : ℕ) (g : Regs) (B : Banks) → banks_next C Mrs r e n g B ≡ B
unfolding banks_next
mrs-banks C r e n g B = refl

mrs-acts : (e n : ℕ) (A : Acts) → acts_next Mrs e n A ≡ A
unfolding acts_next
mrs-acts e n A = refl

pdx-banks : (C : Chip) (r : Record) (e n : ℕ) (g : Regs) (B : Banks) → banks_next C Pdx r e n g B ≡ B
unfolding banks_next
pdx-banks C r e n g B = refl

pdx-acts : (e n : ℕ) (A : Acts) → acts_next Pdx e n A ≡ A
unfolding acts_next
pdx-acts e n A = refl

pre-banks : (C : Chip) (r : Record) (e n : ℕ) (g : Regs) (B : Banks) → a10 r ≡ true
    → banks_next C Pre r e n g B
    ≡ record {
      actat = B.actat;
      actno = B.actno;
      actneed = B.actneed;
      row = B.row;
      colat = B.colat;
      colno = B.colno;
      colpre = B.colpre;
      colturn = B.colturn;
      colout = B.colout;
      shutat = table (λ _. e);
      shutno = table (λ _. n);
    }
unfolding banks_next
pre-banks C r e n g B z = rw z

module _ (C : Chip) (s : Rank) (f : Floor) (r : Record) where
  abbrev e : ℕ
  e = s.edge + r.step

  abbrev n : ℕ
  n = s.count + 1

  abbrev g : Regs
  g = regs_in s

  abbrev start : Command → ℕ
  start c = start_of C c r e g s.banks

  abbrev four : ℕ
  four = four_back C s.acts

  abbrev slow : Bool
  slow = slow_now s.banks s.device

  -- the rank after such a record
  abbrev pub changed : Command → Waits → Rank
  changed c W =
      record {
        edge = e;
        count = n;
        first = s.first;
        level = r.cke;
        debt = debt_next C c e s.debt;
        banks = s.banks;
        waits = W;
        acts = s.acts;
        device = device_next C c r e n slow s.device;
      }

  changed-as : (c : Command) (f' : Floor) (W : Waits) → command_in s r ≡ c → banks_next C c r e n g s.banks ≡ s.banks → acts_next c e n s.acts ≡ s.acts
      → Raises C c r e g (start c) four slow f f' s.waits W → moved_of C (settled f s) r ≡ settled f' (changed c W)
  unfolding moved_of settled
  changed-as c f' W h b a w = rw h (λ i. record {
    edge = e;
    count = n;
    first = s.first;
    level = r.cke;
    debt = debt_next C c e s.debt;
    banks = b i;
    waits = waits-under C c r e g (start c) four slow f f' s.waits W w i;
    acts = a i;
    device = device_next C c r e n slow s.device;
  })

  pub whole-moves : Sized s.waits → (c : Command) → Whole c → command_in s r ≡ c
      → moved_of C (settled f s) r ≡ settled (floor_next C c r slow e f) (changed c (holding C r e g (start c) four slow f s.waits c))
  unfolding banks_next acts_next
  whole-moves size c is-ref h = changed-as Ref _ _ h refl refl (ref-raises C r e g (start Ref) four slow f s.waits)
  whole-moves size c is-zq h = changed-as Zq _ _ h refl refl (zq-raises C r e g (start Zq) four slow f s.waits)
  whole-moves size c is-srx h = changed-as Srx _ _ h refl refl (srx-raises C r e g (start Srx) four slow f s.waits)
  whole-moves size c is-sre h = changed-as Sre _ _ h refl refl (sre-raises C r e g (start Sre) four slow f s.waits)
  whole-moves size c is-nop h = changed-as Nop _ _ h refl refl (nop-raises C r e g (start Nop) four slow f s.waits size)
  whole-moves size c is-des h = changed-as Des _ _ h refl refl (des-raises C r e g (start Des) four slow f s.waits size)
  whole-moves size c is-low h = changed-as Low _ _ h refl refl (low-raises C r e g (start Low) four slow f s.waits size)
  whole-moves size c is-pde h = changed-as Pde _ _ h refl refl (pde-raises C r e g (start Pde) four slow f s.waits size)
  whole-moves size c is-pdx h = go slow refl
    where
      go : (x : Bool) → slow ≡ x
          → moved_of C (settled f s) r
          ≡ settled (cond x (rd_floor (raised_floor f (e + C.txp)) (e + C.txpdll)) (raised_floor f (e + C.txp))) (changed Pdx (holding C r e g (start Pdx) four slow f s.waits Pdx))
      go true z = changed-as Pdx _ _ h (pdx-banks C r e n g s.banks) (pdx-acts e n s.acts) (slow-raises C r e g (start Pdx) four slow f s.waits z)
      go false z = changed-as Pdx _ _ h (pdx-banks C r e n g s.banks) (pdx-acts e n s.acts) (pdx-raises C r e g (start Pdx) four slow f s.waits z)
  whole-moves size c is-mrs h = go (resets_now Mrs r) refl
    where
      go : (x : Bool) → resets_now Mrs r ≡ x
          → moved_of C (settled f s) r
          ≡ settled (cond x (rd_floor (raised_floor f (e + C.tmod)) (e + 512)) (raised_floor f (e + C.tmod))) (changed Mrs (holding C r e g (start Mrs) four slow f s.waits Mrs))
      go true z = changed-as Mrs _ _ h (mrs-banks C r e n g s.banks) (mrs-acts e n s.acts) (reset-raises C r e g (start Mrs) four slow f s.waits z)
      go false z = changed-as Mrs _ _ h (mrs-banks C r e n g s.banks) (mrs-acts e n s.acts) (mrs-raises C r e g (start Mrs) four slow f s.waits z)

  -- a PRE of all banks
  abbrev pub shut_all : Banks
  shut_all =
      record {
        actat = s.banks.actat;
        actno = s.banks.actno;
        actneed = s.banks.actneed;
        row = s.banks.row;
        colat = s.banks.colat;
        colno = s.banks.colno;
        colpre = s.banks.colpre;
        colturn = s.banks.colturn;
        colout = s.banks.colout;
        shutat = table (λ _. e);
        shutno = table (λ _. n);
      }

  pub all-moves : command_in s r ≡ Pre → a10 r ≡ true
      → moved_of C (settled f s) r
      ≡ settled (shut_all_floor f (e + C.trp))
      (record { edge = e; count = n; first = s.first; level = r.cke; debt = s.debt; banks = shut_all; waits = s.waits; acts = s.acts; device = s.device })
  unfolding moved_of settled banks_next acts_next debt_next device_next start_now
  all-moves h z = rw h (λ i. record {
    edge = e;
    count = n;
    first = s.first;
    level = r.cke;
    debt = s.debt;
    banks = pre-banks C r e n g s.banks z i;
    waits = waits-under C Pre r e g (start Pre) four slow f (shut_all_floor f (e + C.trp)) s.waits s.waits (all-raises C r e g (start Pre) four slow f s.waits z) i;
    acts = s.acts;
    device = s.device;
  })
