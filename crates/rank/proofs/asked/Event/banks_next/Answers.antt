-- Field by field.
-- Assumes nothing.
use Prim.Native.Nat.{ℕ, ◌-◌, max}
use mathlib.Core.Path.{◌≡◌, ◌∙◌}
use mathlib.Core.Bool.{Bool, cond, ◌&&◌, ◌||◌}
use mathlib.Core.List.{List}
use lib.ListN.{set, replicate}
use Rattle.laws.specs.Eight.{table}
use Rattle.records.specs.declared.Record.{Record}
use Rattle.records.specs.declared.Command.{Command}
use Rattle.records.specs.declared.Command.TheVariants.{Act, Pre, Rd, Wr}
use Rattle.records.specs.Command.{is_a, a10, bank_in}
use Rattle.records.proofs.Tags.{same_is}
use Rattle.chip.specs.declared.Chip.{Chip}
use Rattle.chip.specs.declared.Regs.{Regs}
use Rattle.chip.specs.Latencies.{al_of}
use Rattle.running.specs.Next.{need10, need11}
use Rattle.edges.specs.declared.Banks.{Banks}
use Rattle.edges.specs.Asks.{need13, need14, need19}
use Rattle.edges.specs.Next.{place, start_of, banks_next}
use Rattle.rank.proofs.asked.Event.banks_next.Goals as goal

banks-are :
    (C : Chip) (c : Command) (r : Record) (e n : ℕ) (g : Regs) (B : Banks)
    {act pre rd wr : Bool} {al i n4 n10 n11 n13 n14 n19 p t o start : ℕ} {actat actno actneed row colat colno colpre colturn colout ownshutat shutat ownshutno shutno : List ℕ}
    → act ≡ is_a Act c → pre ≡ is_a Pre c → rd ≡ is_a Rd c → wr ≡ is_a Wr c → i ≡ place c r → al ≡ al_of g → n4 ≡ max (C.trcd - al) 1
    → n10 ≡ need10 C g → n11 ≡ need11 C g → n13 ≡ need13 g r → n14 ≡ need14 C g → n19 ≡ need19 g r
    → p ≡ cond (rd) n10 n11 → t ≡ cond (rd) n13 n14 → o ≡ cond (rd) n19 0 → start ≡ start_of C c r e g B
    → actat ≡ cond (act) (set B.actat (bank_in r) e) B.actat
    → actno ≡ cond (act) (set B.actno (bank_in r) n) B.actno
    → actneed ≡ cond (act) (set B.actneed (bank_in r) n4) B.actneed
    → row ≡ cond (act) (set B.row (bank_in r) r.a) B.row
    → colat ≡ cond (rd || wr) (set B.colat i e) B.colat
    → colno ≡ cond (rd || wr) (set B.colno i n) B.colno
    → colpre ≡ cond (rd || wr) (set B.colpre i p) B.colpre
    → colturn ≡ cond (rd || wr) (set B.colturn i t) B.colturn
    → colout ≡ cond (rd || wr) (set B.colout i o) B.colout
    → ownshutat ≡ cond (pre || (rd || wr) && a10 r) (set B.shutat (bank_in r) start) B.shutat
    → shutat ≡ cond (pre && a10 r) (replicate 8 e) ownshutat
    → ownshutno ≡ cond (pre || (rd || wr) && a10 r) (set B.shutno (bank_in r) n) B.shutno
    → shutno ≡ cond (pre && a10 r) (replicate 8 n) ownshutno
    → record { actat = actat; actno = actno; actneed = actneed; row = row; colat = colat; colno = colno; colpre = colpre; colturn = colturn; colout = colout; shutat = shutat; shutno = shutno } ≡ banks_next C c r e n g B
unfolding banks_next table
banks-are C c r e n g B acts pres rds wrs is als n4e n10s n11s n13s n14s n19s pe te oe sts actate actnoe actneede rowe colate colnoe colpree colturne coloute ownshutate shutate ownshutnoe shutnoe =
    let n4s = n4e ∙ (λ j. max (C.trcd - als j) 1) in
    let ps = pe ∙ (λ j. cond (rds j) (n10s j) (n11s j)) in
    let ts = te ∙ (λ j. cond (rds j) (n13s j) (n14s j)) in
    let os = oe ∙ (λ j. cond (rds j) (n19s j) 0) in
    let ownshutats = ownshutate ∙ (λ j. cond (pres j || (rds j || wrs j) && a10 r) (set B.shutat (bank_in r) (sts j)) B.shutat) in
    let ownshutnos = ownshutnoe ∙ (λ j. cond (pres j || (rds j || wrs j) && a10 r) (set B.shutno (bank_in r) n) B.shutno) in
    λ x. record {
      actat = (actate ∙ (λ j. cond (acts j) (set B.actat (bank_in r) e) B.actat)) x;
      actno = (actnoe ∙ (λ j. cond (acts j) (set B.actno (bank_in r) n) B.actno)) x;
      actneed = (actneede ∙ (λ j. cond (acts j) (set B.actneed (bank_in r) (n4s j)) B.actneed)) x;
      row = (rowe ∙ (λ j. cond (acts j) (set B.row (bank_in r) r.a) B.row)) x;
      colat = (colate ∙ (λ j. cond (rds j || wrs j) (set B.colat (is j) e) B.colat)) x;
      colno = (colnoe ∙ (λ j. cond (rds j || wrs j) (set B.colno (is j) n) B.colno)) x;
      colpre = (colpree ∙ (λ j. cond (rds j || wrs j) (set B.colpre (is j) (ps j)) B.colpre)) x;
      colturn = (colturne ∙ (λ j. cond (rds j || wrs j) (set B.colturn (is j) (ts j)) B.colturn)) x;
      colout = (coloute ∙ (λ j. cond (rds j || wrs j) (set B.colout (is j) (os j)) B.colout)) x;
      shutat = (shutate ∙ (λ j. cond (pres j && a10 r) (table (λ _. e)) (ownshutats j))) x;
      shutno = (shutnoe ∙ (λ j. cond (pres j && a10 r) (table (λ _. n)) (ownshutnos j))) x;
    }

pub need10-requires : goal.need10-requires
need10-requires c = c.args.self.small

pub need11-requires : goal.need11-requires
need11-requires c = c.args.self.small

pub need14-requires : goal.need14-requires
need14-requires c = c.args.self.small

pub returns : goal.returns
returns c = let a = c.args.self in banks-are a.chip a.c a.r a.e c.args.n a.g c.args.banks (c.eq-act.ensures ∙ same_is a.c Act) (c.eq-pre.ensures ∙ same_is a.c Pre) (c.eq-rd.ensures ∙ same_is a.c Rd) (c.eq-wr.ensures ∙ same_is a.c Wr) c.place-i.ensures.value c.al_of-al.ensures.0 c.need4.ensures c.need10.ensures c.need11.ensures c.need13.ensures c.need14.ensures c.need19.ensures c.either.ensures c.either-2.ensures c.either-3.ensures c.requires c.put.ensures c.put-2.ensures c.put-3.ensures c.put-4.ensures c.put-5.ensures c.put-6.ensures c.put-7.ensures c.put-8.ensures c.put-9.ensures c.put-10.ensures c.put_all.ensures c.put-11.ensures c.put_all-2.ensures
