-- What a seldom command leaves alone, and the edge before which no deadline passes behind it.
-- Assumes nothing.
use Prim.Native.Nat.{ℕ, ◌+◌, ◌-◌, ◌%◌, min}
use native.Mathlib.Omega.{arith}
use mathlib.Core.Bool.{Bool, true, false, cond, ◌&&◌, ◌||◌, true≢false}
use mathlib.Core.List.{List}
use mathlib.Core.Logic.{inl, inr, ⊎_elim}
use mathlib.Core.Path.{◌≡◌, refl, sym, ap, ◌∙◌}
use lib.Dec.{eqb, leb}
use lib.ListN.{get_or, length}
use Rattle.laws.specs.Eight.{table}
use Rattle.records.specs.declared.Record.{Record}
use Rattle.records.specs.declared.Command.{Command}
use Rattle.records.specs.declared.Command.TheVariants.{Mrs, Ref, Pre, Act, Wr, Rd, Zq, Nop, Des, Sre, Srx, Low, Bad, Pde, Pdx}
use Rattle.records.specs.Command.{is_a, bank_in, falling, command_of}
use Rattle.chip.specs.declared.Chip.{Chip}
use Rattle.running.specs.Next.{changing}
use Rattle.edges.specs.declared.Banks.{Banks}
use Rattle.edges.specs.declared.Device.{Device}
use Rattle.edges.specs.declared.Debt.{Debt}
use Rattle.edges.specs.declared.Floor.{Floor}
use Rattle.edges.specs.Views.{regs_of, CKE, PDX, SLOW}
use Rattle.edges.specs.Asks.{need18}
use Rattle.edges.specs.Next.{set_if, counting, stamped, debt_next, device_next}
use Rattle.edges.specs.Clearing.{Owing, Staying, owing_by, clear_next}
use Rattle.edges.specs.Ways.{floor_next}
use Rattle.edges.specs.Seldom.{AllIdle, MayCome}

-- a list of eight, all of it put anew or not
pub eight : (yes : Bool) (xs ys : List ℕ) (v : ℕ) → ys ≡ cond yes (table (λ _. v)) xs → length xs ≡ 8 → length ys ≡ 8
unfolding table
eight true xs ys v e k = ap (λ (z : List ℕ). length z) e
eight false xs ys v e k = ap (λ (z : List ℕ). length z) e ∙ k

-- only an MRS writes a register
pub same_regs : (C : Chip) (c : Command) (r : Record) (e n : ℕ) (slow : Bool) (D : Device) → is_a Mrs c ≡ false → regs_of (device_next C c r e n slow D) ≡ regs_of D
unfolding device_next
same_regs C c r e n slow D h = rw h

-- of the seldom commands only a REF and an SRX move an edge of the debt
pub kept-owed : (C : Chip) (c : Command) (e : ℕ) (x : Debt) (clear : ℕ) → is_a Ref c ≡ false → is_a Srx c ≡ false → Owing x clear → Owing (debt_next C c e x) clear
unfolding debt_next
kept-owed C c e x clear h k o = rw (h, k) (go (is_a Sre c))
  where
    go : (b : Bool) → Owing (cond b (record { sleeps = true; due = x.due - counting x e; gap = x.gap - counting x e }) x) clear
    go true = inl refl
    go false = o

-- of a command that is no exit it does not matter whether an exit would be slow
pub slow-device : (C : Chip) (c : Command) (r : Record) (e n : ℕ) (x y : Bool) (D : Device) → (is_a Pdx c ≡ true → x ≡ y) → device_next C c r e n x D ≡ device_next C c r e n y D
unfolding device_next
slow-device C c r e n x y D h = go (is_a Pdx c) refl
  where
    with : (u v : Bool) → Device
    with u v =
        record {
          at = set_if (u && v) (set_if u (set_if (changing c) (stamped c r D.at e e e e e e) CKE e) PDX e) SLOW e;
          no = set_if (u && v) (set_if u (set_if (changing c) (stamped c r D.no n n n n n n) CKE n) PDX n) SLOW n;
          need = set_if (u && v) (set_if u (set_if (changing c) (stamped c r D.need C.trfc 4 (need18 C r) (C.tcke + 1) C.txs 512) CKE C.tcke) PDX C.txp) SLOW C.txpdll;
          codes = set_if (is_a Mrs c) D.codes (bank_in r % 4) r.a;
          written = set_if (is_a Mrs c) D.written (bank_in r % 4) true;
        }

    go : (u : Bool) → is_a Pdx c ≡ u → with u x ≡ with u y
    go true z = ap (with true) (h z)
    go false z = refl

pub slow-floor : (C : Chip) (c : Command) (r : Record) (e : ℕ) (x y : Bool) (f : Floor) → (is_a Pdx c ≡ true → x ≡ y) → floor_next C c r x e f ≡ floor_next C c r y e f
slow-floor C Mrs r e x y f h = refl
slow-floor C Ref r e x y f h = refl
slow-floor C Pre r e x y f h = refl
slow-floor C Act r e x y f h = refl
slow-floor C Wr r e x y f h = refl
slow-floor C Rd r e x y f h = refl
slow-floor C Zq r e x y f h = refl
slow-floor C Nop r e x y f h = refl
slow-floor C Des r e x y f h = refl
slow-floor C Sre r e x y f h = refl
slow-floor C Srx r e x y f h = refl
slow-floor C Low r e x y f h = refl
slow-floor C Bad r e x y f h = refl
slow-floor C Pde r e x y f h = refl
slow-floor C Pdx r e x y f h = ap (λ (v : Bool). floor_next C Pdx r v e f) (h refl)

-- a command that may come is no bad one
pub may-good : (C : Chip) (c : Command) (r : Record) (e : ℕ) (f : Floor) (B : Banks) (p h : List ℕ) (D : Device)
    → MayCome C c r e f B p h D → is_a Bad c ≡ false
may-good C Mrs r e f B p h D w = refl
may-good C Ref r e f B p h D w = refl
may-good C Pre r e f B p h D w = refl
may-good C Act r e f B p h D w = refl
may-good C Wr r e f B p h D w = refl
may-good C Rd r e f B p h D w = refl
may-good C Zq r e f B p h D w = refl
may-good C Nop r e f B p h D w = refl
may-good C Des r e f B p h D w = refl
may-good C Sre r e f B p h D w = refl
may-good C Srx r e f B p h D w = refl
may-good C Low r e f B p h D w = refl
may-good C Pde r e f B p h D w = refl
may-good C Pdx r e f B p h D w = refl
may-good C Bad r e f B p h D w = absurd w

-- no stay is too long before the next edge
pub kept-stays :
    (C : Chip) (c : Command) (r : Record) (e n : ℕ) (slow l : Bool) (x : Debt) (D : Device) (x' : Debt) (D' : Device) (at clear : ℕ)
    → c ≡ command_of l x.sleeps r → is_a Bad c ≡ false → x' ≡ debt_next C c e x → D' ≡ device_next C c r e n slow D → at ≡ get_or D'.at CKE 0
    → Staying l x.sleeps (get_or D.at CKE 0) C.nine clear
    → Staying r.cke x'.sleeps (get_or D'.at CKE 0) C.nine (clear_next C.most C.nine c e at x' clear)
unfolding command_of falling debt_next device_next clear_next
kept-stays C c r e n slow l x D x' D' at clear names good debt device turns st =
    go r.cke refl l refl (eqb r.pins 1) refl (leb 7 r.pins) refl
  where
    Stays : Bool → Type 0
    Stays k = Staying k x'.sleeps (get_or D'.at CKE 0) C.nine (cond (is_a Ref c || is_a Pre c) (owing_by x' (e + C.most + 1))
        (cond (is_a Srx c) (owing_by x' clear) (cond (is_a Pde c) (min clear (at + C.nine + 1)) clear)))

    go : (k : Bool) → r.cke ≡ k → (b : Bool) → l ≡ b → (y : Bool) → eqb r.pins 1 ≡ y → (z : Bool) → leb 7 r.pins ≡ z → Stays k
    go true i b j y u z v = inl refl
    go false i true j true u z v =
        let q : c ≡ Sre = names ∙ rw (i, j, u) in
        inr (inl (ap (λ (d : Debt). d.sleeps) debt ∙ rw q))
    go false i true j false u true v =
        let q : c ≡ Pde = names ∙ rw (i, j, u, v) in
        rw (q, ← turns) (inr (inr (omega arith)))
    go false i true j false u false v =
        let q : c ≡ Bad = names ∙ rw (i, j, u, v) in
        absurd (true≢false (sym (ap (is_a Bad) q) ∙ good))
    go false i false j y u z v =
        let q : c ≡ Low = names ∙ rw (i, j) in
        let same : x' ≡ x = debt ∙ rw q in
        let whole : D'.at ≡ D.at = ap (λ (d : Device). d.at) device ∙ rw q in
        rw (q, same, whole) (inr (⊎_elim (λ w. absurd (true≢false (sym w ∙ j))) (λ w. w) st))

-- behind a REF all banks are idle
pub ref-idle : (C : Chip) (c : Command) (r : Record) (e : ℕ) (f : Floor) (B : Banks) (p h : List ℕ) (D : Device)
    → MayCome C c r e f B p h D → is_a Ref c ≡ true → (is_a Pre c ≡ false) × AllIdle B e
ref-idle C Ref r e f B p h D w z = (refl, w.all)
ref-idle C Mrs r e f B p h D w z = absurd (true≢false (sym z))
ref-idle C Pre r e f B p h D w z = absurd (true≢false (sym z))
ref-idle C Act r e f B p h D w z = absurd (true≢false (sym z))
ref-idle C Wr r e f B p h D w z = absurd (true≢false (sym z))
ref-idle C Rd r e f B p h D w z = absurd (true≢false (sym z))
ref-idle C Zq r e f B p h D w z = absurd (true≢false (sym z))
ref-idle C Nop r e f B p h D w z = absurd (true≢false (sym z))
ref-idle C Des r e f B p h D w z = absurd (true≢false (sym z))
ref-idle C Sre r e f B p h D w z = absurd (true≢false (sym z))
ref-idle C Srx r e f B p h D w z = absurd (true≢false (sym z))
ref-idle C Low r e f B p h D w z = absurd (true≢false (sym z))
ref-idle C Bad r e f B p h D w z = absurd (true≢false (sym z))
ref-idle C Pde r e f B p h D w z = absurd (true≢false (sym z))
ref-idle C Pdx r e f B p h D w z = absurd (true≢false (sym z))
