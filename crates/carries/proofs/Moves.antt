-- A record changes the banks, the ring of ACTs and the device of the summary as the step changes them.
-- Assumes nothing.
use Prim.Native.Nat.{ℕ, zero, suc, ◌+◌, ◌%◌, ◌<◌}
use native.Mathlib.Omega.{arith}
use mathlib.Core.Path.{◌≡◌, refl, sym, ap, ◌∙◌, fun_ext}
use mathlib.Core.Logic.{⊎_elim}
use mathlib.Core.Bool.{Bool, true, false, cond, not, ◌&&◌, ◌||◌}
use mathlib.Core.List.{[], ◌∷◌}
use lib.Dec.{eqb, leb, ltb}
use lib.ListN.{set}
use Rattle.laws.specs.Any.{any_of}
use Rattle.laws.proofs.Both.{both}
use Rattle.laws.proofs.Eight.{get_or-table}
use Rattle.records.specs.declared.Record.{Record}
use Rattle.records.specs.declared.Command.{Command}
use Rattle.records.specs.declared.Command.TheVariants.{Mrs, Ref, Pre, Act, Wr, Rd, Zq, Sre, Srx, Low, Bad, Pde, Pdx}
use Rattle.records.specs.Command.{by_pins, falling, rising, command_of, is_a, a10, bank_in, rank}
use Rattle.codes.specs.Codes.{set as set1}
use Rattle.registers.proofs.Facts.{allowed-below}
use Rattle.chip.specs.declared.Chip.{Chip}
use Rattle.running.specs.Next as running
use Rattle.running.specs.Next.{changing, shuts_now, start_now}
use Rattle.edges.specs.Asks as asks
use Rattle.edges.specs.Next as edges
use Rattle.edges.specs.Next.{set_if, start_of}
use Rattle.rules.specs.Past.{Past, edge, number, cke, changes, asleep, command, is, address_of, latest, back, has}
use Rattle.rules.specs.Registers.{mrs_to, dll_reset, regs}
use Rattle.rules.specs.Banks.{act_on, closes, start}
use Rattle.rules.specs.Down.{turned, precharged, slow_exit}
use Rattle.rules.proofs.Sleeping.{pins-still, changes-are}
use Rattle.rules.proofs.Down.{down_is, precharged-is, any-ext}
use Rattle.rules.proofs.Summary.{kept}
use Rattle.rules.proofs.Status.{mark-num, start-mark-num}
use Rattle.rules.proofs.Generic.{decide}
use Rattle.rules.proofs.Events.{never, push}
use Rattle.rules.proofs.Fits.{mrs-allowed}
use Rattle.rules.proofs.Clean.{Clean, clean-tail, not-bad, is-other, ClosedBy, by-pre, by-rd, by-wr, closing-by}
use Rattle.rules.proofs.Starts.{start-pre}
use Rattle.rules.proofs.Dominate.{need4, need10, need11, need13, need14, need18, need19, regs_same}
use Rattle.rules.proofs.Moves.{closes-own, start-now}
use Rattle.carries.proofs.Summary.{of, each, turn_of, ring, acts_of, each_rest, each_register, banks_of, device_of}
use Rattle.carries.proofs.Views.{turn_small, ring-set}
use Rattle.carries.proofs.Stores.{stored, column-stored, shut-stored}

module _ (r : Record) (p : Past) where
  abbrev e : ℕ
  e = edge (r ∷ p)

  abbrev n : ℕ
  n = number (r ∷ p)

  abbrev c : Command
  c = command (r ∷ p)

  -- no command but an MRS changes the registers
  pub regs-still : (k : Command) → (rank k ≡ rank Mrs → ⊥) → is k (r ∷ p) ≡ true → regs p ≡ regs (r ∷ p)
  regs-still k h y = regs_same p (r ∷ p) (rw (is-other k Mrs (r ∷ p) h y))

  -- ── Banks ─────────────────────────────────────────────────────────────────────────────────

  module _ (C : Chip) where
    -- the start, from the ACT that is kept of the record's bank
    pub start-kept : shuts_now c r ≡ true → start_of C c r e (regs p) (banks_of C p) ≡ start C (r ∷ p)
    unfolding banks_of
    start-kept y =
        (λ i. start_now C c e (still (closing-by (bank_in r) (r ∷ p) own) i) (get_or-table (λ b. edge (latest (act_on b) p)) (bank_in r) 0 (omega arith) i))
        ∙ start-now C r p (bank_in r) own
      where
        own : closes (bank_in r) (r ∷ p) ≡ true
        own = closes-own C r p ∙ y

        still : ClosedBy (bank_in r) (r ∷ p) → regs p ≡ regs (r ∷ p)
        still (by-pre a o) = regs-still Pre (λ z. omega arith) a
        still (by-rd a o) = regs-still Rd (λ z. omega arith) a
        still (by-wr a o) = regs-still Wr (λ z. omega arith) a

    pub banks-next : edges.banks_next C c r e n (regs p) (banks_of C p) ≡ banks_of C (r ∷ p)
    unfolding edges.banks_next banks_of
    banks-next = λ i. record {
      actat = act edge e (λ _. refl) i;
      actno = act number n (λ _. refl) i;
      actneed = act (of (need4 C)) (running.need4 C (regs p)) (λ y. ap (running.need4 C) (regs-still Act (λ z. omega arith) y)) i;
      row = act address_of r.a (λ _. refl) i;
      colat = column-stored r p edge edge e (λ _. refl) (λ _. refl) i;
      colno = column-stored r p number number n (λ _. refl) (λ _. refl) i;
      colpre = column-stored r p (of (need10 C)) (of (need11 C)) (cond (is Rd (r ∷ p)) (running.need10 C (regs p)) (running.need11 C (regs p)))
          (λ y. rw y (ap (running.need10 C) (rd y))) (λ y. rw (wr-not y) (ap (running.need11 C) (wr y))) i;
      colturn = column-stored r p (of (need13 C)) (of (need14 C)) (cond (is Rd (r ∷ p)) (asks.need13 (regs p) r) (asks.need14 C (regs p)))
          (λ y. rw y (ap (λ g. asks.need13 g r) (rd y))) (λ y. rw (wr-not y) (ap (asks.need14 C) (wr y))) i;
      colout = column-stored r p (of (need19 C)) (of (λ _. 0)) (cond (is Rd (r ∷ p)) (asks.need19 (regs p) r) 0)
          (λ y. rw y (ap (λ g. asks.need19 g r) (rd y))) (λ y. rw (wr-not y)) i;
      shutat = shut-stored r p (of (start C)) (start_of C c r e (regs p) (banks_of C p)) e
          (λ y. sym (start-pre C (r ∷ p) (both (is Pre (r ∷ p)) (a10 r) y).0)) start-kept i;
      shutno = shut-stored r p number n n (λ _. refl) (λ _. refl) i;
    }
      where
        act : (f : Past → ℕ) (v : ℕ) → (is Act (r ∷ p) ≡ true → v ≡ f (r ∷ p)) → set_if (is Act (r ∷ p)) (each f act_on p) (bank_in r) v ≡ each f act_on (r ∷ p)
        act f v y = stored r p f act_on (is Act (r ∷ p)) v y (λ b. refl)

        rd : is Rd (r ∷ p) ≡ true → regs p ≡ regs (r ∷ p)
        rd y = regs-still Rd (λ z. omega arith) y

        wr : is Wr (r ∷ p) ≡ true → regs p ≡ regs (r ∷ p)
        wr y = regs-still Wr (λ z. omega arith) y

        wr-not : is Wr (r ∷ p) ≡ true → is Rd (r ∷ p) ≡ false
        wr-not y = is-other Wr Rd (r ∷ p) (λ z. omega arith) y

  -- ── The last four ACTs ────────────────────────────────────────────────────────────────────

  back-still : is Act (r ∷ p) ≡ false → (m : ℕ) → back (is Act) m p ≡ back (is Act) m (r ∷ p)
  back-still z zero = rw z
  back-still z (suc m) = rw z

  pub acts-next : edges.acts_next c e n (acts_of p) ≡ acts_of (r ∷ p)
  unfolding edges.acts_next acts_of turn_of
  acts-next = λ i. record { at = part edge i; no = part number i; turn = turn_of (r ∷ p) }
    where
      part : (f : Past → ℕ) → set_if (is Act (r ∷ p)) (ring (turn_of p) (λ m. f (back (is Act) m p))) (turn_of p) (f (r ∷ p))
          ≡ ring (cond (is Act (r ∷ p)) ((turn_of p + 1) % 4) (turn_of p)) (λ m. f (back (is Act) m (r ∷ p)))
      part f = go (is Act (r ∷ p)) refl
        where
          go : (x : Bool) → is Act (r ∷ p) ≡ x → set_if x (ring (turn_of p) (λ m. f (back (is Act) m p))) (turn_of p) (f (r ∷ p))
              ≡ ring (cond x ((turn_of p + 1) % 4) (turn_of p)) (λ m. f (back (is Act) m (r ∷ p)))
          go true y =
              ring-set (turn_of p) (λ m. f (back (is Act) m p)) (λ m. f (back (is Act) m (r ∷ p))) (f (r ∷ p)) (turn_small p) (rw y) (λ m. rw y)
          go false z = ap (λ (g : ℕ → Past). ring (turn_of p) (λ m. f (g m))) (fun_ext (back-still z))

  -- ── The device ────────────────────────────────────────────────────────────────────────────

  -- an MRS of a clean past is to one of the four registers
  mrs-small : (C : Chip) → Clean C (r ∷ p) → is Mrs (r ∷ p) ≡ true → bank_in r < 4
  mrs-small C h y = allowed-below C.header (bank_in r) r.a (mrs-allowed C r p h y)

  -- one of nine changes where its test holds
  stamped-is :
      (slow : Bool) (a0 a1 a2 a3 a4 a5 a6 a7 a8 v0 v1 v2 v3 v4 v5 v6 v7 v8 : ℕ)
      → edges.turned_to c slow (edges.stamped c r (a0 ∷ a1 ∷ a2 ∷ a3 ∷ a4 ∷ a5 ∷ a6 ∷ a7 ∷ a8 ∷ []) v0 v1 v2 v3 v4 v5) v6 v7 v8
      ≡ cond (is Ref (r ∷ p)) v0 a0 ∷ cond (is Mrs (r ∷ p)) v1 a1 ∷ cond (is Zq (r ∷ p)) v2 a2 ∷ cond (is Sre (r ∷ p)) v3 a3 ∷ cond (is Srx (r ∷ p)) v4 a4 ∷ cond (dll_reset (r ∷ p)) v5 a5 ∷ cond (changing c) v6 a6 ∷ cond (is Pdx (r ∷ p)) v7 a7 ∷ cond ((is Pdx (r ∷ p) && slow)) v8 a8 ∷ []
  stamped-is slow a0 a1 a2 a3 a4 a5 a6 a7 a8 v0 v1 v2 v3 v4 v5 v6 v7 v8 =
      nine (is Ref (r ∷ p)) (is Mrs (r ∷ p)) (is Zq (r ∷ p)) (is Sre (r ∷ p)) (is Srx (r ∷ p)) (dll_reset (r ∷ p)) (changing c) (is Pdx (r ∷ p)) (is Pdx (r ∷ p) && slow)
    where
      nine : (x0 x1 x2 x3 x4 x5 x6 x7 x8 : Bool)
          → set_if x8 (set_if x7 (set_if x6 (set_if x5 (set_if x4 (set_if x3 (set_if x2 (set_if x1 (set_if x0 (a0 ∷ a1 ∷ a2 ∷ a3 ∷ a4 ∷ a5 ∷ a6 ∷ a7 ∷ a8 ∷ []) 0 v0) 1 v1) 2 v2) 3 v3) 4 v4) 5 v5) 6 v6) 7 v7) 8 v8
          ≡ cond x0 v0 a0 ∷ cond x1 v1 a1 ∷ cond x2 v2 a2 ∷ cond x3 v3 a3 ∷ cond x4 v4 a4 ∷ cond x5 v5 a5 ∷ cond x6 v6 a6 ∷ cond x7 v7 a7 ∷ cond x8 v8 a8 ∷ []
      nine x0 x1 x2 x3 x4 x5 x6 x7 x8 =
          ap (λ l. set_if x8 (set_if x7 (set_if x6 (set_if x5 (set_if x4 (set_if x3 (set_if x2 (set_if x1 (l) 1 v1) 2 v2) 3 v3) 4 v4) 5 v5) 6 v6) 7 v7) 8 v8) (push (λ y. y ∷ a1 ∷ a2 ∷ a3 ∷ a4 ∷ a5 ∷ a6 ∷ a7 ∷ a8 ∷ []) x0 v0 a0)
          ∙ ap (λ l. set_if x8 (set_if x7 (set_if x6 (set_if x5 (set_if x4 (set_if x3 (set_if x2 (l) 2 v2) 3 v3) 4 v4) 5 v5) 6 v6) 7 v7) 8 v8) (push (λ y. cond x0 v0 a0 ∷ y ∷ a2 ∷ a3 ∷ a4 ∷ a5 ∷ a6 ∷ a7 ∷ a8 ∷ []) x1 v1 a1)
          ∙ ap (λ l. set_if x8 (set_if x7 (set_if x6 (set_if x5 (set_if x4 (set_if x3 (l) 3 v3) 4 v4) 5 v5) 6 v6) 7 v7) 8 v8) (push (λ y. cond x0 v0 a0 ∷ cond x1 v1 a1 ∷ y ∷ a3 ∷ a4 ∷ a5 ∷ a6 ∷ a7 ∷ a8 ∷ []) x2 v2 a2)
          ∙ ap (λ l. set_if x8 (set_if x7 (set_if x6 (set_if x5 (set_if x4 (l) 4 v4) 5 v5) 6 v6) 7 v7) 8 v8) (push (λ y. cond x0 v0 a0 ∷ cond x1 v1 a1 ∷ cond x2 v2 a2 ∷ y ∷ a4 ∷ a5 ∷ a6 ∷ a7 ∷ a8 ∷ []) x3 v3 a3)
          ∙ ap (λ l. set_if x8 (set_if x7 (set_if x6 (set_if x5 (l) 5 v5) 6 v6) 7 v7) 8 v8) (push (λ y. cond x0 v0 a0 ∷ cond x1 v1 a1 ∷ cond x2 v2 a2 ∷ cond x3 v3 a3 ∷ y ∷ a5 ∷ a6 ∷ a7 ∷ a8 ∷ []) x4 v4 a4)
          ∙ ap (λ l. set_if x8 (set_if x7 (set_if x6 (l) 6 v6) 7 v7) 8 v8) (push (λ y. cond x0 v0 a0 ∷ cond x1 v1 a1 ∷ cond x2 v2 a2 ∷ cond x3 v3 a3 ∷ cond x4 v4 a4 ∷ y ∷ a6 ∷ a7 ∷ a8 ∷ []) x5 v5 a5)
          ∙ ap (λ l. set_if x8 (set_if x7 (l) 7 v7) 8 v8) (push (λ y. cond x0 v0 a0 ∷ cond x1 v1 a1 ∷ cond x2 v2 a2 ∷ cond x3 v3 a3 ∷ cond x4 v4 a4 ∷ cond x5 v5 a5 ∷ y ∷ a7 ∷ a8 ∷ []) x6 v6 a6)
          ∙ ap (λ l. set_if x8 (l) 8 v8) (push (λ y. cond x0 v0 a0 ∷ cond x1 v1 a1 ∷ cond x2 v2 a2 ∷ cond x3 v3 a3 ∷ cond x4 v4 a4 ∷ cond x5 v5 a5 ∷ cond x6 v6 a6 ∷ y ∷ a8 ∷ []) x7 v7 a7)
          ∙ push (λ y. cond x0 v0 a0 ∷ cond x1 v1 a1 ∷ cond x2 v2 a2 ∷ cond x3 v3 a3 ∷ cond x4 v4 a4 ∷ cond x5 v5 a5 ∷ cond x6 v6 a6 ∷ cond x7 v7 a7 ∷ y ∷ []) x8 v8 a8

  stamped-next :
      (C : Chip) (slow : Bool) → changing c ≡ changes (r ∷ p) → is Pdx (r ∷ p) && slow ≡ slow_exit C (r ∷ p) → (f0 f1 f2 f3 f4 f5 f6 f7 f8 : Past → ℕ)
      → edges.turned_to c slow (edges.stamped c r (each_rest C f0 f1 f2 f3 f4 f5 f6 f7 f8 p) (f0 (r ∷ p)) (f1 (r ∷ p)) (f2 (r ∷ p)) (f3 (r ∷ p)) (f4 (r ∷ p)) (f5 (r ∷ p)))
      (f6 (r ∷ p)) (f7 (r ∷ p)) (f8 (r ∷ p))
      ≡ each_rest C f0 f1 f2 f3 f4 f5 f6 f7 f8 (r ∷ p)
  stamped-next C slow turn exit f0 f1 f2 f3 f4 f5 f6 f7 f8 =
      stamped-is slow _ _ _ _ _ _ _ _ _ (f0 (r ∷ p)) (f1 (r ∷ p)) (f2 (r ∷ p)) (f3 (r ∷ p)) (f4 (r ∷ p)) (f5 (r ∷ p)) (f6 (r ∷ p)) (f7 (r ∷ p)) (f8 (r ∷ p))
      ∙ (λ i. push f0 (is Ref (r ∷ p)) (r ∷ p) (latest (is Ref) p) i ∷ push f1 (is Mrs (r ∷ p)) (r ∷ p) (latest (is Mrs) p) i ∷ push f2 (is Zq (r ∷ p)) (r ∷ p) (latest (is Zq) p) i ∷ push f3 (is Sre (r ∷ p)) (r ∷ p) (latest (is Sre) p) i ∷ push f4 (is Srx (r ∷ p)) (r ∷ p) (latest (is Srx) p) i ∷ push f5 (dll_reset (r ∷ p)) (r ∷ p) (latest (dll_reset) p) i ∷ (ap (λ x. cond x (f6 (r ∷ p)) (f6 (turned p))) turn ∙ push f6 (changes (r ∷ p)) (r ∷ p) (turned p)) i ∷ push f7 (is Pdx (r ∷ p)) (r ∷ p) (latest (is Pdx) p) i ∷ (ap (λ x. cond x (f8 (r ∷ p)) (f8 (latest (slow_exit C) p))) exit ∙ push f8 (slow_exit C (r ∷ p)) (r ∷ p) (latest (slow_exit C) p)) i ∷ [])

  -- an exit is of a part that is in power-down
  pdx-low : is Pdx (r ∷ p) ≡ true → cke p || asleep p ≡ false
  unfolding command_of falling rising
  pdx-low y =
      go (cke p) r.cke (eqb r.pins 1) (leb 7 r.pins) (asleep p) (by_pins r.pins)
      (pins-still (λ d. is_a Pdx d ≡ false) refl refl refl refl refl refl refl refl refl r.pins) y
    where
      go : (b k x y s : Bool) (d : Command) → is_a Pdx d ≡ false
          → is_a Pdx (cond b (cond k d (cond x Sre (cond y Pde Bad))) (cond k (cond y (cond s Srx Pdx) Bad) Low)) ≡ true → b || s ≡ false
      go true true x y s d u h = never h u
      go true false true y s d u h = never h refl
      go true false false true s d u h = never h refl
      go true false false false s d u h = never h refl
      go false true x true true d u h = never h refl
      go false true x true false d u h = refl
      go false true x false s d u h = never h refl
      go false false x y s d u h = never h refl

  -- the banks tell at an exit whether one was open at the entry
  opened-is : (C : Chip) (b : ℕ) → b < 8 → edges.opened (banks_of C p) b ≡ ltb (kept C p b).shut.num (kept C p b).acted.num
  unfolding banks_of kept
  opened-is C b l = λ i.
      ltb ((get_or-table (λ b. number (latest (closes b) p)) b 0 l ∙ sym (start-mark-num C (latest (closes b) p))) i)
      ((get_or-table (λ b. number (latest (act_on b) p)) b 0 l ∙ sym (mark-num (need4 C) (latest (act_on b) p))) i)

  pub slow-is : (C : Chip) → Clean C p → is Pdx (r ∷ p) && edges.slow_now (banks_of C p) (device_of C p) ≡ slow_exit C (r ∷ p)
  unfolding edges.slow_now edges.none_open slow_exit device_of
  slow-is C h = go (is Pdx (r ∷ p)) refl
    where
      none : is Pdx (r ∷ p) ≡ true → not (any_of (edges.opened (banks_of C p)) 8) ≡ precharged C (turned p)
      none y =
          ap not (any-ext (edges.opened (banks_of C p)) _ 8 (opened-is C))
          ∙ sym (precharged-is C p h (down_is C p h ∙ ap not (pdx-low y)))

      go : (x : Bool) → is Pdx (r ∷ p) ≡ x
          → x && (has (mrs_to 0) p && (not (set1 (address_of (latest (mrs_to 0) p)) 12) && not (any_of (edges.opened (banks_of C p)) 8)))
          ≡ x && (has (mrs_to 0) p && (not (set1 (address_of (latest (mrs_to 0) p)) 12) && precharged C (turned p)))
      go true y = λ i. has (mrs_to 0) p && (not (set1 (address_of (latest (mrs_to 0) p)) 12) && none y i)
      go false n = refl

  -- a store at the register's place
  four-set : {A : Type 0} (b : ℕ) (f : ℕ → A) (v : A) → b < 4 → set (each_register f) (b % 4) v ≡ each_register (λ n. cond (eqb b n) v (f n))
  four-set zero f v l = refl
  four-set (suc zero) f v l = refl
  four-set (suc (suc zero)) f v l = refl
  four-set (suc (suc (suc zero))) f v l = refl
  four-set (suc (suc (suc (suc b)))) f v l = absurd (omega arith)

  registers-next : {A : Type 0} (C : Chip) → Clean C (r ∷ p) → (f g : ℕ → A) (v : A) → ((n : ℕ) → cond (mrs_to n (r ∷ p)) v (f n) ≡ g n)
      → set_if (is Mrs (r ∷ p)) (each_register f) (bank_in r % 4) v ≡ each_register g
  registers-next C h f g v same = ⊎_elim
      (λ (y : is Mrs (r ∷ p) ≡ true).
      rw y (four-set (bank_in r) f v (mrs-small C h y) ∙ (λ i. now y 0 i ∷ now y 1 i ∷ now y 2 i ∷ now y 3 i ∷ [])))
      (λ (z : is Mrs (r ∷ p) ≡ false). rw z (λ i. old z 0 i ∷ old z 1 i ∷ old z 2 i ∷ old z 3 i ∷ []))
      (decide (is Mrs (r ∷ p)))
    where
      now : is Mrs (r ∷ p) ≡ true → (n : ℕ) → cond (eqb (bank_in r) n) v (f n) ≡ g n
      now y n = ap (λ x. cond (x && eqb (bank_in r) n) v (f n)) (sym y) ∙ same n

      old : is Mrs (r ∷ p) ≡ false → (n : ℕ) → f n ≡ g n
      old z n = ap (λ x. cond (x && eqb (bank_in r) n) v (f n)) (sym z) ∙ same n

  pub device-next : (C : Chip) → Clean C (r ∷ p) → edges.device_next C c r e n (edges.slow_now (banks_of C p) (device_of C p)) (device_of C p) ≡ device_of C (r ∷ p)
  unfolding edges.device_next device_of
  device-next C h = λ i. record {
    at = stamped-next C slow turn exit edge edge edge edge edge edge edge edge edge i;
    no = stamped-next C slow turn exit number number number number number number number number number i;
    need = stamped-next C slow turn exit (of (λ _. C.trfc)) (of (λ _. 4)) (of (need18 C)) (of (λ _. C.tcke + 1)) (of (λ _. C.txs)) (of (λ _. 512))
        (of (λ _. C.tcke)) (of (λ _. C.txp)) (of (λ _. C.txpdll)) i;
    codes = registers-next C h (λ m. address_of (latest (mrs_to m) p)) (λ m. address_of (latest (mrs_to m) (r ∷ p))) r.a
        (λ m. push address_of (mrs_to m (r ∷ p)) (r ∷ p) (latest (mrs_to m) p)) i;
    written = registers-next C h (λ m. has (mrs_to m) p) (λ m. has (mrs_to m) (r ∷ p)) true (λ m. or_is (mrs_to m (r ∷ p)) (has (mrs_to m) p)) i;
  }
    where
      slow : Bool
      slow = edges.slow_now (banks_of C p) (device_of C p)

      turn : changing (command (r ∷ p)) ≡ changes (r ∷ p)
      turn = sym (changes-are r p (not-bad C r p h))

      exit : is Pdx (r ∷ p) && edges.slow_now (banks_of C p) (device_of C p) ≡ slow_exit C (r ∷ p)
      exit = slow-is C (clean-tail C r p h)

      or_is : (x y : Bool) → cond x true y ≡ x || y
      or_is true y = refl
      or_is false y = refl
