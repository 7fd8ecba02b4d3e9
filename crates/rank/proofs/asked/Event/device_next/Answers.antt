-- Place by place.
-- Assumes nothing.
use Prim.Native.Nat.{ℕ, ◌+◌, ◌%◌}
use mathlib.Core.Bool.{Bool, true, cond}
use mathlib.Core.List.{List}
use mathlib.Core.Path.{◌≡◌, ◌∙◌}
use lib.ListN.{set}
use Rattle.records.specs.declared.Record.{Record}
use Rattle.records.specs.declared.Command.{Command}
use Rattle.records.specs.declared.Command.TheVariants.{Mrs}
use Rattle.records.proofs.Tags.{same_is}
use Rattle.records.specs.Command.{is_a, bank_in}
use Rattle.chip.specs.declared.Chip.{Chip}
use Rattle.edges.specs.declared.Device.{Device}
use Rattle.edges.specs.Asks.{need18}
use Rattle.edges.specs.Next.{stamped, turned_to, device_next}
use Rattle.rank.proofs.asked.Event.device_next.Goals as goal

device-is :
    (C : Chip) (c : Command) (r : Record) (e n : ℕ) (slow : Bool) (D : Device)
    {mrs : Bool} {zq : ℕ} {a6 m6 k6 a m q g : List ℕ} {w : List Bool}
    → mrs ≡ is_a Mrs c → zq ≡ need18 C r
    → a6 ≡ stamped c r D.at e e e e e e → m6 ≡ stamped c r D.no n n n n n n
    → k6 ≡ stamped c r D.need C.trfc 4 zq (C.tcke + 1) C.txs 512
    → a ≡ turned_to c slow a6 e e e → m ≡ turned_to c slow m6 n n n → q ≡ turned_to c slow k6 C.tcke C.txp C.txpdll
    → g ≡ cond mrs (set D.codes (bank_in r % 4) r.a) D.codes
    → w ≡ cond mrs (set D.written (bank_in r % 4) true) D.written
    → record { at = a; no = m; need = q; codes = g; written = w } ≡ device_next C c r e n slow D
unfolding device_next
device-is C c r e n slow D ks zs es ns ws ats nos ks' gs us =
    let six = ws ∙ (λ i. stamped c r D.need C.trfc 4 (zs i) (C.tcke + 1) C.txs 512) in
    λ i. record {
      at = (ats ∙ (λ j. turned_to c slow (es j) e e e)) i;
      no = (nos ∙ (λ j. turned_to c slow (ns j) n n n)) i;
      need = (ks' ∙ (λ j. turned_to c slow (six j) C.tcke C.txp C.txpdll)) i;
      codes = (gs ∙ (λ j. cond (ks j) (set D.codes (bank_in r % 4) r.a) D.codes)) i;
      written = (us ∙ (λ j. cond (ks j) (set D.written (bank_in r % 4) true) D.written)) i;
    }

pub returns : goal.returns
returns c =
    let a = c.args.self in
    device-is a.chip a.c a.r a.e c.args.n a.slow c.args.d
    (c.eq-mrs.ensures ∙ same_is a.c Mrs) c.need18-zq.ensures
    c.stamped-at6.ensures c.stamped-no6.ensures c.stamped-need6.ensures
    c.turned.ensures c.turned-2.ensures c.turned-3.ensures
    c.put.ensures c.put-2.ensures
