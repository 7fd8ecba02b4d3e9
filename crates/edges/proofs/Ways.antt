-- What ACT, RD, WR and PRE of one bank ask, raised as the loop does it.
-- Assumes nothing.
use Prim.Native.Nat.{ℕ, ◌+◌, ◌/◌, ◌%◌, ◌<◌, max}
use native.Mathlib.Omega.{arith}
use native.Mathlib.Decide.{ℕ_discrete}
use mathlib.Core.Bool.{Bool, true, false, cond, ◌&&◌, ◌||◌}
use mathlib.Core.List.{List}
use mathlib.Core.Path.{◌≡◌, refl, sym, ap, ◌∙◌}
use lib.Dec.{eqb}
use lib.ListN.{get_or, length, length-set}
use borrow.Author.Tests.{eq-eqb, ne_eqb}
use Rattle.records.specs.declared.Record.{Record}
use Rattle.records.specs.declared.Command.{Command}
use Rattle.records.specs.declared.Command.TheVariants.{Pre, Act, Wr, Rd, Nop, Des, Low, Pde}
use Rattle.records.specs.Command.{a10, bank_in}
use Rattle.chip.specs.declared.Chip.{Chip}
use Rattle.chip.specs.declared.Regs.{Regs}
use Rattle.running.specs.declared.Asks.{Asks}
use Rattle.running.specs.Easy.{Asked}
use Rattle.running.proofs.Asking.{n4-is, n10-is, n11-is, n13-is, n14-is, n19-is}
use Rattle.edges.specs.declared.Waits.{Waits}
use Rattle.edges.specs.declared.Floor.{Floor}
use Rattle.edges.specs.Asks.{asks_act, asks_rd, asks_wr, asks_pre, asks_ref, asks_mrs, asks_sre}
use Rattle.edges.specs.Ways.{raised_at, shut_floor, column_floor, col_pre, col13, col19, act_floor}
use Rattle.edges.proofs.Raising.{swap, raised_by, raised_all, raised-none, at_own, Raises}

-- eight places on
shifted : (i b : ℕ) → eqb (i + 8) (b + 8) ≡ eqb i b
shifted i b = elim (ℕ_discrete i b) [
  | yes e ↦ eq-eqb _ _ (ap (λ n. n + 8) e) ∙ sym (eq-eqb i b e)
  | no f ↦ ne_eqb (i + 8) (b + 8) (λ (e : i + 8 ≡ b + 8). f (omega arith)) ∙ sym (ne_eqb i b f)
]

-- both places of a bank raised
module _ (xs : List ℕ) (i v : ℕ) (low : i < 8) (len : length xs ≡ 16) where
  abbrev twice : List ℕ
  twice = raised_at (raised_at xs i v) (i + 8) v

  long : i + 8 < length (raised_at xs i v)
  long = omega (arith, length-set xs i (max (get_or xs i 0) v))

  pub at-rd : (b : ℕ) → b < 8 → get_or twice b 0 ≡ max (get_or xs b 0) (cond (eqb i b) v 0)
  at-rd b l =
      at_own (raised_at xs i v) (i + 8) v b long
      ∙ rw (ne_eqb (i + 8) b (λ e. omega arith), at_own xs i v b (omega arith)) (omega arith)

  pub at-wr : (b : ℕ) → b < 8 → get_or twice (b + 8) 0 ≡ max (get_or xs (b + 8) 0) (cond (eqb i b) v 0)
  at-wr b l =
      at_own (raised_at xs i v) (i + 8) v (b + 8) long
      ∙ rw (shifted i b, at_own xs i v (b + 8) (omega arith), ne_eqb i (b + 8) (λ e. omega arith)) (omega arith)

-- the lengths of the arrays
pub record Sized (W : Waits) : Type 0 where
  pub act : length W.act ≡ 8
  pub col : length W.col ≡ 16
  pub pre : length W.pre ≡ 8

module _ (C : Chip) (r : Record) (e : ℕ) (g : Regs) (start four : ℕ) (slow : Bool) (f : Floor) (W : Waits) (size : Sized W) where
  abbrev own : ℕ
  own = bank_in r

  -- a record that asks nothing
  nothing : (c : Command) → ((b : ℕ) → asks_act C c r e g start four slow b ≡ 0) → ((b : ℕ) → asks_rd C c r e g start four slow b ≡ 0)
      → ((b : ℕ) → asks_wr C c r e g start four slow b ≡ 0) → ((b : ℕ) → asks_pre C c r e g start four slow b ≡ 0) → asks_ref C c r e g start four slow ≡ 0
      → asks_mrs C c r e g start four slow ≡ 0 → asks_sre C c r e g start four slow ≡ 0 → Raises C c r e g start four slow f f W W
  nothing c a rd wr p h m s = record {
    act = λ b l. rw (a b) (omega arith);
    rd = λ b l. rw (rd b) (omega arith);
    wr = λ b l. rw (wr b) (omega arith);
    pre = λ b l. rw (p b) (omega arith);
    refresh = rw h (omega arith);
    mode = rw m (omega arith);
    zq = rw h (omega arith);
    sleep = rw s (omega arith);
  }

  pub nop-raises : Raises C Nop r e g start four slow f f W W
  unfolding asks_act asks_rd asks_wr asks_pre asks_ref asks_mrs asks_sre
  nop-raises = nothing Nop (λ b. refl) (λ b. refl) (λ b. refl) (λ b. refl) refl refl refl

  pub des-raises : Raises C Des r e g start four slow f f W W
  unfolding asks_act asks_rd asks_wr asks_pre asks_ref asks_mrs asks_sre
  des-raises = nothing Des (λ b. refl) (λ b. refl) (λ b. refl) (λ b. refl) refl refl refl

  pub low-raises : Raises C Low r e g start four slow f f W W
  unfolding asks_act asks_rd asks_wr asks_pre asks_ref asks_mrs asks_sre
  low-raises = nothing Low (λ b. refl) (λ b. refl) (λ b. refl) (λ b. refl) refl refl refl

  pub pde-raises : Raises C Pde r e g start four slow f f W W
  unfolding asks_act asks_rd asks_wr asks_pre asks_ref asks_mrs asks_sre
  pde-raises = nothing Pde (λ b. refl) (λ b. refl) (λ b. refl) (λ b. refl) refl refl refl

  module _ (w : Asks) (asked : Asked C g w) where
    abbrev act_waits : Waits
    act_waits = record {
      act = raised_at W.act own (e + C.trc);
      col = raised_at (raised_at W.col own (e + w.n4)) (own + 8) (e + w.n4);
      pre = raised_at W.pre own (e + C.tras);
      holds = W.holds;
    }

    pub act-raises : Raises C Act r e g start four slow f (act_floor f (e + C.trrd) four) W act_waits
    unfolding asks_act asks_rd asks_wr asks_pre asks_ref asks_mrs asks_sre
    act-raises = record {
      act = λ b l. raised_by _ _ (cond (eqb own b) (e + C.trc) 0) (max (e + C.trrd) four) (omega arith) (at_own W.act own (e + C.trc) b (omega (arith, size.act))) refl;
      rd = λ b l. raised_by _ _ (cond (eqb own b) (e + w.n4) 0) 0 (rw (n4-is C g w asked) (omega arith)) (at-rd W.col own (e + w.n4) (omega arith) size.col b l) (omega arith);
      wr = λ b l. raised_by _ _ (cond (eqb own b) (e + w.n4) 0) 0 (rw (n4-is C g w asked) (omega arith)) (at-wr W.col own (e + w.n4) (omega arith) size.col b l) (omega arith);
      pre = λ b l. raised_by _ _ (cond (eqb own b) (e + C.tras) 0) 0 (omega arith) (at_own W.pre own (e + C.tras) b (omega (arith, size.pre))) (omega arith);
      refresh = raised-none _ _ refl;
      mode = raised-none _ _ refl;
      zq = raised-none _ _ refl;
      sleep = raised-none _ _ refl;
    }

    abbrev rd_long : Bool
    rd_long = eqb (r.a / 4096 % 2) 1

    abbrev col_waits : (rd : Bool) → Waits
    col_waits rd = record { act = W.act; col = W.col; pre = raised_at W.pre own (e + col_pre w rd); holds = W.holds }

    pre-own : (n : ℕ) (b : ℕ) → b < 8 → get_or (raised_at W.pre own (e + n)) b 0 ≡ max (get_or W.pre b 0) (cond (eqb own b) (e + n) 0)
    pre-own n b l = at_own W.pre own (e + n) b (omega (arith, size.pre))

    pub rd-raises : a10 r ≡ false → Raises C Rd r e g start four slow f (column_floor f w true rd_long e) W (col_waits true)
    unfolding asks_act asks_rd asks_wr asks_pre asks_ref asks_mrs asks_sre
    rd-raises z = record {
      act = λ b l. raised-none _ _ (rw z);
      rd = λ b l. raised_all _ _ (e + 4) (omega arith) refl;
      wr = λ b l. raised_all _ _ (e + col13 w rd_long) (rw (n13-is C g w asked r.a) (omega arith)) refl;
      pre = λ b l. raised_by _ _ (cond (eqb own b) (e + w.n10) 0) 0 (rw (n10-is C g w asked) (omega arith)) (pre-own w.n10 b l) (omega arith);
      refresh = raised-none _ _ (rw z);
      mode = raised_all _ _ (e + col19 w rd_long) (rw (z, n19-is C g w asked r.a) (omega arith)) (omega arith);
      zq = raised-none _ _ (rw z);
      sleep = raised_all _ _ (e + col19 w rd_long) (rw (z, n19-is C g w asked r.a) (omega arith)) (omega arith);
    }

    pub wr-raises : a10 r ≡ false → Raises C Wr r e g start four slow f (column_floor f w false rd_long e) W (col_waits false)
    unfolding asks_act asks_rd asks_wr asks_pre asks_ref asks_mrs asks_sre
    wr-raises z = record {
      act = λ b l. raised-none _ _ (rw z);
      rd = λ b l. raised_all _ _ (e + w.n14) (rw (n14-is C g w asked) (omega arith)) refl;
      wr = λ b l. raised_all _ _ (e + 4) (omega arith) refl;
      pre = λ b l. raised_by _ _ (cond (eqb own b) (e + w.n11) 0) 0 (rw (n11-is C g w asked) (omega arith)) (pre-own w.n11 b l) (omega arith);
      refresh = raised-none _ _ (rw z);
      mode = raised_all _ _ 0 (rw z) (omega arith);
      zq = raised-none _ _ (rw z);
      sleep = raised_all _ _ 0 (rw z) (omega arith);
    }

    abbrev auto_waits : (rd : Bool) → Waits
    auto_waits rd = record { act = raised_at W.act own (start + C.trp); col = W.col; pre = raised_at W.pre own (e + col_pre w rd); holds = W.holds }

    act-own : (b : ℕ) → b < 8 → get_or (raised_at W.act own (start + C.trp)) b 0 ≡ max (get_or W.act b 0) (cond (eqb own b) (start + C.trp) 0)
    act-own b l = at_own W.act own (start + C.trp) b (omega (arith, size.act))

    pub rd-auto-raises : a10 r ≡ true → Raises C Rd r e g start four slow f (shut_floor (column_floor f w true rd_long e) (start + C.trp)) W (auto_waits true)
    unfolding asks_act asks_rd asks_wr asks_pre asks_ref asks_mrs asks_sre
    rd-auto-raises z = record {
      act = λ b l. raised_by _ _ (cond (eqb own b) (start + C.trp) 0) 0 (rw z (omega arith)) (act-own b l) (omega arith);
      rd = λ b l. raised_all _ _ (e + 4) (omega arith) refl;
      wr = λ b l. raised_all _ _ (e + col13 w rd_long) (rw (n13-is C g w asked r.a) (omega arith)) refl;
      pre = λ b l. raised_by _ _ (cond (eqb own b) (e + w.n10) 0) 0 (rw (n10-is C g w asked) (omega arith)) (pre-own w.n10 b l) (omega arith);
      refresh = raised_all _ _ (start + C.trp) (rw z (omega arith)) refl;
      mode =
          raised_all _ _ (max (start + C.trp) (e + col19 w rd_long)) (rw (z, n19-is C g w asked r.a) (omega arith))
          (swap f.idle (start + C.trp) f.out (e + col19 w rd_long));
      zq = raised_all _ _ (start + C.trp) (rw z (omega arith)) refl;
      sleep =
          raised_all _ _ (max (start + C.trp) (e + col19 w rd_long)) (rw (z, n19-is C g w asked r.a) (omega arith))
          (swap f.idle (start + C.trp) f.out (e + col19 w rd_long));
    }

    pub wr-auto-raises : a10 r ≡ true → Raises C Wr r e g start four slow f (shut_floor (column_floor f w false rd_long e) (start + C.trp)) W (auto_waits false)
    unfolding asks_act asks_rd asks_wr asks_pre asks_ref asks_mrs asks_sre
    wr-auto-raises z = record {
      act = λ b l. raised_by _ _ (cond (eqb own b) (start + C.trp) 0) 0 (rw z (omega arith)) (act-own b l) (omega arith);
      rd = λ b l. raised_all _ _ (e + w.n14) (rw (n14-is C g w asked) (omega arith)) refl;
      wr = λ b l. raised_all _ _ (e + 4) (omega arith) refl;
      pre = λ b l. raised_by _ _ (cond (eqb own b) (e + w.n11) 0) 0 (rw (n11-is C g w asked) (omega arith)) (pre-own w.n11 b l) (omega arith);
      refresh = raised_all _ _ (start + C.trp) (rw z (omega arith)) refl;
      mode = raised_all _ _ (max (start + C.trp) 0) (rw z (omega arith)) (swap f.idle (start + C.trp) f.out 0);
      zq = raised_all _ _ (start + C.trp) (rw z (omega arith)) refl;
      sleep = raised_all _ _ (max (start + C.trp) 0) (rw z (omega arith)) (swap f.idle (start + C.trp) f.out 0);
    }

  own-closes : (x y : Bool) → (false || x) || (false && (y && x)) ≡ x
  own-closes true y = refl
  own-closes false y = refl

  pub pre-raises : a10 r ≡ false
      → Raises C Pre r e g start four slow f (shut_floor f (start + C.trp)) W (record { act = raised_at W.act own (start + C.trp); col = W.col; pre = W.pre; holds = W.holds })
  unfolding asks_act asks_rd asks_wr asks_pre asks_ref asks_mrs asks_sre
  pre-raises z = record {
    act = λ b l. raised_by _ _ (cond (eqb own b) (start + C.trp) 0) 0 (rw (z, own-closes (eqb own b) false) (omega arith)) (at_own W.act own (start + C.trp) b (omega (arith, size.act))) (omega arith);
    rd = λ b l. raised-none _ _ refl;
    wr = λ b l. raised-none _ _ refl;
    pre = λ b l. raised-none _ _ refl;
    refresh = raised_all _ _ (start + C.trp) (omega arith) refl;
    mode = raised_all _ _ (start + C.trp) (omega arith) (omega arith);
    zq = raised_all _ _ (start + C.trp) (omega arith) refl;
    sleep = raised_all _ _ (start + C.trp) (omega arith) (omega arith);
  }
