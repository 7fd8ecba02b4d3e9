-- The quick loop's turns, as the code tells them: what its tests say, and the arrays after its calls.
-- Assumes nothing.
use Prim.Native.Nat.{ℕ, ◌+◌, ◌-◌, ◌*◌, ◌/◌, ◌%◌, ◌≤◌, ◌<◌}
use native.Mathlib.Omega.{arith}
use mathlib.Core.Bool.{Bool, true, false, cond, not, ◌&&◌, ◌||◌}
use mathlib.Core.Path.{◌≡◌, sym, ◌∙◌}
use lib.Dec.{eqb, leb, ltb}
use lib.ListN.{get_or}
use borrow.Author.Tests.{eqb-false, leb-false, ltb-false, not-false, ne_eqb, eq-eqb}
use Rattle.records.specs.declared.Record.{Record}
use Rattle.records.specs.Command.{bank_in}
use Rattle.chip.specs.declared.Chip.{Chip}
use Rattle.running.specs.declared.Asks.{Asks}
use Rattle.laws.proofs.Both.{neither}
use Rattle.edges.specs.declared.Banks.{Banks}
use Rattle.edges.specs.declared.Device.{Device}
use Rattle.edges.specs.Views.{written_of}
use Rattle.edges.specs.Ways.{raised_at, shut_floor, column_floor, col_pre, col_start, four_at, act_floor, shut_banks, act_banks, act_acts, col_banks, may_column, may_precharge, may_activate}
use Rattle.edges.specs.Running.{Track, all_written, Turns}
use Rattle.edges.proofs.Quick.{quick-nop, quick-pre, quick-act, quick-column, quick-auto}

-- the first test: no step is 0, no deadline passes, CKE is high, and it is no MRS and no REF
pub record Goes (step clear e : ℕ) (cke : Bool) (pins : ℕ) : Type 0 where
  pub some : step ≡ 0 → ⊥
  pub before : e < clear
  pub high : cke ≡ true
  pub frequent : 2 ≤ pins

pub goes : (step clear e : ℕ) (cke : Bool) (pins : ℕ) → (eqb step 0 || leb clear e) || (not cke || ltb pins 2) ≡ false → Goes step clear e cke pins
goes step clear e cke pins h =
    let a = neither (eqb step 0 || leb clear e) (not cke || ltb pins 2) h in
    let b = neither (eqb step 0) (leb clear e) a.0 in
    let c = neither (not cke) (ltb pins 2) a.1 in
    record { some = eqb-false step 0 b.0; before = leb-false clear e b.1; high = not-false cke c.0; frequent = ltb-false pins 2 c.1 }

module _ (r : Record) (t : Track) {e n : ℕ} (pe : e ≡ t.edge + r.step) (pn : n ≡ t.count + 1) where
  abbrev own : ℕ
  own = bank_in r

  abbrev B : Banks
  B = t.banks

  module _ (C : Chip) (w : Asks) (D : Device) where
    pub turns-nop : 7 ≤ r.pins → Turns C w r D t (record t { edge = e; count = n })
    turns-nop p = record {
      further = λ clear bytes t₀ at₀ at q h is some high before.
          rw (pe, pn) (quick-nop C w (all_written D) (written_of D).dll clear bytes t₀ at₀ t at q h r is some high before p);
    }

    pub turns-pre : {m : Bool} → r.pins ≡ 2 → eqb (r.a / 1024 % 2) 1 || not m ≡ false
        → m ≡ may_precharge (get_or B.shutno own 0) (get_or B.actno own 0) (get_or B.shutat own 0) (get_or t.pre own 0) t.floor.pre e
        → Turns C w r D t (record t { edge = e; count = n; banks = shut_banks B own e n; act = raised_at t.act own (e + C.trp); floor = shut_floor t.floor (e + C.trp) })
    turns-pre {m} p z k =
        let y = neither (eqb (r.a / 1024 % 2) 1) (not m) z in
        record {
          further = λ clear bytes t₀ at₀ at q h is some high before.
              rw (pe, pn) (quick-pre C w (all_written D) (written_of D).dll clear bytes t₀ at₀ t at q h r is some high before p y.0 (sym (rw pe at k) ∙ not-false m y.1));
        }

    pub turns-act : {m : Bool} → r.pins ≡ 3 → not (all_written D) || not m ≡ false
        → m ≡ may_activate (get_or B.shutno own 0) (get_or B.actno own 0) (get_or B.shutat own 0) (get_or t.act own 0) t.floor.act e
        → Turns C w r D t (record t {
          edge = e;
          count = n;
          banks = act_banks B w own r.a e n;
          act = raised_at t.act own (e + C.trc);
          col = raised_at (raised_at t.col own (e + w.n4)) (own + 8) (e + w.n4);
          pre = raised_at t.pre own (e + C.tras);
          acts = act_acts t.acts e n;
          floor = act_floor t.floor (e + C.trrd) (four_at t.acts.at t.acts.no t.acts.turn C.tfaw);
        })
    turns-act {m} p z k =
        let y = neither (not (all_written D)) (not m) z in
        record {
          further = λ clear bytes t₀ at₀ at q h is some high before.
              rw (pe, pn) (quick-act C w (all_written D) (written_of D).dll clear bytes t₀ at₀ t at q h r is some high before p (not-false _ y.0) (sym (rw pe at k) ∙ not-false m y.1));
        }

    module _ {m : Bool} (y : ℕ) (py : y ≡ 5 - r.pins) (low : r.pins < 6) (high : 4 ≤ r.pins)
        (z : eqb y 0 && not (written_of D).dll || not m ≡ false)
        (k : m ≡ may_column (get_or B.shutno own 0) (get_or B.actno own 0) (get_or t.col (y * 8 + own) 0) (cond (eqb y 0) t.floor.rd t.floor.wr) e) where
      abbrev long : Bool
      long = eqb (r.a / 4096 % 2) 1

      tests : (eqb y 0 && not (written_of D).dll ≡ false) × (not m ≡ false)
      tests = neither (eqb y 0 && not (written_of D).dll) (not m) z

      abbrev pub columned : Track
      columned =
          record t {
            edge = e;
            count = n;
            banks = col_banks B w (eqb y 0) long (y * 8 + own) e n;
            pre = raised_at t.pre own (e + col_pre w (eqb y 0));
            floor = column_floor t.floor w (eqb y 0) long e;
          }

      pub turns-column : (r.a / 1024 % 2 ≡ 1 → ⊥) → Turns C w r D t columned
      turns-column o = record {
        further = λ clear bytes t₀ at₀ at q h is some cke before.
            rw (pe, pn) (quick-column C w (all_written D) (written_of D).dll clear bytes t₀ at₀ t at q h r is some cke before y (omega arith) (omega arith) tests.0 (sym (rw pe at k) ∙ not-false m tests.1) (ne_eqb _ _ o));
      }

      pub turns-auto : r.a / 1024 % 2 ≡ 1
          → let start : ℕ = col_start w C.tras (eqb y 0) e (get_or B.actat own 0) in
          Turns C w r D t (record columned { banks = shut_banks columned.banks own start n; act = raised_at t.act own (start + C.trp); floor = shut_floor columned.floor (start + C.trp) })
      turns-auto o = record {
        further = λ clear bytes t₀ at₀ at q h is some cke before.
            rw (pe, pn) (quick-auto C w (all_written D) (written_of D).dll clear bytes t₀ at₀ t at q h r is some cke before y (omega arith) (omega arith) tests.0 (sym (rw pe at k) ∙ not-false m tests.1) (eq-eqb _ _ o));
      }
