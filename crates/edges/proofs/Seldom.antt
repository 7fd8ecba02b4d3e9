-- A clean record of a seldom command, as the loop does it.
-- Assumes nothing.
use Prim.Native.Nat.{ℕ, ◌+◌, max}
use native.Mathlib.Omega.{arith}
use native.Mathlib.Nat.{zero-max, max-zero, max_comm}
use mathlib.Core.Bool.{Bool, true, false, ◌||◌, ◌&&◌}
use mathlib.Core.Path.{◌≡◌, refl, sym}
use lib.ListN.{get_or}
use Rattle.records.specs.declared.Record.{Record}
use Rattle.records.specs.declared.Command.{Command}
use Rattle.records.specs.declared.Command.TheVariants.{Mrs, Ref, Pre, Zq, Sre, Srx, Pdx}
use Rattle.records.specs.Command.{a10}
use Rattle.chip.specs.declared.Chip.{Chip}
use Rattle.chip.specs.declared.Regs.{Regs}
use Rattle.running.specs.Next.{resets_now}
use Rattle.edges.specs.declared.Waits.{Waits}
use Rattle.edges.specs.declared.Floor.{Floor}
use Rattle.edges.specs.Asks.{asks_act, asks_rd, asks_wr, asks_pre, asks_ref, asks_mrs, asks_sre, need18}
use Rattle.edges.specs.Ways.{raised_floor, rd_floor, shut_all_floor, held_to, floor_next, holds_next}
use Rattle.edges.proofs.Raising.{raised_all, raised-none, Raises}

held_up : (x i y : ℕ) → max (max x i) y ≡ max (max x y) i
held_up x i y = omega arith

module _ (C : Chip) (r : Record) (e : ℕ) (g : Regs) (start four : ℕ) (slow : Bool) (f : Floor) (W : Waits) where
  -- a command that asks the same of every bank
  alike :
      (c : Command) (y z m : ℕ) → ((b : ℕ) → asks_act C c r e g start four slow b ≡ y) → ((b : ℕ) → asks_rd C c r e g start four slow b ≡ max y z)
      → ((b : ℕ) → asks_wr C c r e g start four slow b ≡ y) → ((b : ℕ) → asks_pre C c r e g start four slow b ≡ y) → asks_ref C c r e g start four slow ≡ y
      → asks_mrs C c r e g start four slow ≡ m → asks_sre C c r e g start four slow ≡ y
      → Raises C c r e g start four slow f (rd_floor (raised_floor f y) z) W (record { act = W.act; col = W.col; pre = W.pre; holds = held_to W.holds y m })
  alike c y z m a d w p h k s = record {
    act = λ b l. raised_all _ _ y (a b) refl;
    rd = λ b l. raised_all _ _ (max y z) (d b) (omega arith);
    wr = λ b l. raised_all _ _ y (w b) refl;
    pre = λ b l. raised_all _ _ y (p b) refl;
    refresh = rw h (held_up (get_or W.holds 0 0) f.idle y);
    mode = rw k (held_up (get_or W.holds 1 0) (max f.idle f.out) m);
    zq = rw h (held_up (get_or W.holds 2 0) f.idle y);
    sleep = rw s (held_up (get_or W.holds 3 0) (max f.idle f.out) y);
  }

  -- no more of a RD
  plain : (y : ℕ) → rd_floor (raised_floor f y) 0 ≡ raised_floor f y
  plain y = let p : max (max f.rd y) 0 ≡ max f.rd y = omega arith in
      λ i. record { act = max f.act y; rd = p i; wr = max f.wr y; pre = max f.pre y; idle = f.idle; out = f.out }

  abbrev pub holding : Command → Waits
  holding c = record { act = W.act; col = W.col; pre = W.pre; holds = holds_next C c r e W.holds }

  pub ref-raises : Raises C Ref r e g start four slow f (floor_next C Ref r slow e f) W (holding Ref)
  unfolding asks_act asks_rd asks_wr asks_pre asks_ref asks_mrs asks_sre
  ref-raises =
      rw (sym (plain (e + C.trfc)))
      (alike Ref (e + C.trfc) 0 (e + C.trfc) (λ b. simp (zero-max, max-zero)) (λ b. simp (zero-max, max-zero)) (λ b. simp (zero-max, max-zero)) (λ b. simp (zero-max, max-zero))
      (simp (zero-max, max-zero)) (simp (zero-max, max-zero)) (simp (zero-max, max-zero)))

  pub zq-raises : Raises C Zq r e g start four slow f (floor_next C Zq r slow e f) W (holding Zq)
  unfolding asks_act asks_rd asks_wr asks_pre asks_ref asks_mrs asks_sre
  zq-raises =
      rw (sym (plain (e + need18 C r)))
      (alike Zq (e + need18 C r) 0 (e + need18 C r) (λ b. simp (zero-max, max-zero)) (λ b. simp (zero-max, max-zero)) (λ b. simp (zero-max, max-zero)) (λ b. simp (zero-max, max-zero))
      (simp (zero-max, max-zero)) (simp (zero-max, max-zero)) (simp (zero-max, max-zero)))

  pub srx-raises : Raises C Srx r e g start four slow f (floor_next C Srx r slow e f) W (holding Srx)
  unfolding asks_act asks_rd asks_wr asks_pre asks_ref asks_mrs asks_sre
  srx-raises =
      alike Srx (e + C.txs) (e + 512) (e + C.txs) (λ b. simp (zero-max, max-zero)) (λ b. simp (zero-max, max-zero) (max_comm (e + 512) (e + C.txs))) (λ b. simp (zero-max, max-zero)) (λ b. simp (zero-max, max-zero))
      (simp (zero-max, max-zero)) (simp (zero-max, max-zero)) (simp (zero-max, max-zero))

  -- an exit, and a slow one
  pub pdx-raises : slow ≡ false → Raises C Pdx r e g start four slow f (raised_floor f (e + C.txp)) W (holding Pdx)
  unfolding asks_act asks_rd asks_wr asks_pre asks_ref asks_mrs asks_sre
  pdx-raises z =
      rw (sym (plain (e + C.txp)))
      (alike Pdx (e + C.txp) 0 (e + C.txp) (λ b. simp (zero-max, max-zero)) (λ b. rw z (simp (zero-max, max-zero))) (λ b. simp (zero-max, max-zero)) (λ b. simp (zero-max, max-zero))
      (simp (zero-max, max-zero)) (simp (zero-max, max-zero)) (simp (zero-max, max-zero)))

  pub slow-raises : slow ≡ true → Raises C Pdx r e g start four slow f (rd_floor (raised_floor f (e + C.txp)) (e + C.txpdll)) W (holding Pdx)
  unfolding asks_act asks_rd asks_wr asks_pre asks_ref asks_mrs asks_sre
  slow-raises z =
      alike Pdx (e + C.txp) (e + C.txpdll) (e + C.txp) (λ b. simp (zero-max, max-zero)) (λ b. rw z (simp (zero-max, max-zero))) (λ b. simp (zero-max, max-zero)) (λ b. simp (zero-max, max-zero))
      (simp (zero-max, max-zero)) (simp (zero-max, max-zero)) (simp (zero-max, max-zero))

  pub mrs-raises : resets_now Mrs r ≡ false → Raises C Mrs r e g start four slow f (raised_floor f (e + C.tmod)) W (holding Mrs)
  unfolding asks_act asks_rd asks_wr asks_pre asks_ref asks_mrs asks_sre
  mrs-raises z =
      rw (sym (plain (e + C.tmod)))
      (alike Mrs (e + C.tmod) 0 (e + 4) (λ b. simp (zero-max, max-zero)) (λ b. rw z (simp (zero-max, max-zero))) (λ b. simp (zero-max, max-zero)) (λ b. simp (zero-max, max-zero))
      (simp (zero-max, max-zero)) (simp (zero-max, max-zero)) (simp (zero-max, max-zero)))

  pub reset-raises : resets_now Mrs r ≡ true → Raises C Mrs r e g start four slow f (rd_floor (raised_floor f (e + C.tmod)) (e + 512)) W (holding Mrs)
  unfolding asks_act asks_rd asks_wr asks_pre asks_ref asks_mrs asks_sre
  reset-raises z =
      alike Mrs (e + C.tmod) (e + 512) (e + 4) (λ b. simp (zero-max, max-zero)) (λ b. rw z (simp (zero-max, max-zero))) (λ b. simp (zero-max, max-zero)) (λ b. simp (zero-max, max-zero))
      (simp (zero-max, max-zero)) (simp (zero-max, max-zero)) (simp (zero-max, max-zero))

  pub sre-raises : Raises C Sre r e g start four slow f f W W
  unfolding asks_act asks_rd asks_wr asks_pre asks_ref asks_mrs asks_sre
  sre-raises = record {
    act = λ b l. raised-none _ _ refl;
    rd = λ b l. raised-none _ _ refl;
    wr = λ b l. raised-none _ _ refl;
    pre = λ b l. raised-none _ _ refl;
    refresh = raised-none _ _ refl;
    mode = raised-none _ _ refl;
    zq = raised-none _ _ refl;
    sleep = raised-none _ _ refl;
  }

  all-closes : (x : Bool) → (true || x) || (false && (true && x)) ≡ true
  all-closes true = refl
  all-closes false = refl

  -- a PRE of all banks
  pub all-raises : a10 r ≡ true → Raises C Pre r e g start four slow f (shut_all_floor f (start + C.trp)) W W
  unfolding asks_act asks_rd asks_wr asks_pre asks_ref asks_mrs asks_sre
  all-raises z = record {
    act = λ b l. raised_all _ _ (start + C.trp) (rw z (simp (zero-max, max-zero))) refl;
    rd = λ b l. raised-none _ _ refl;
    wr = λ b l. raised-none _ _ refl;
    pre = λ b l. raised-none _ _ refl;
    refresh = raised_all _ _ (start + C.trp) (simp (zero-max, max-zero)) refl;
    mode = raised_all _ _ (start + C.trp) (simp (zero-max, max-zero)) (omega arith);
    zq = raised_all _ _ (start + C.trp) (simp (zero-max, max-zero)) refl;
    sleep = raised_all _ _ (start + C.trp) (simp (zero-max, max-zero)) (omega arith);
  }
