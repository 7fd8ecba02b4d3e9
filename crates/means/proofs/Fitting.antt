-- Each number of a verdict on a recording that is not refused fits its bits.
-- Assumes nothing.
use Prim.Native.Nat.{ℕ, ◌+◌, ◌-◌, ◌*◌, ◌≤◌}
use native.Mathlib.Nat.{max-le, mul-le-mul_left}
use native.Mathlib.Omega.{arith}
use mathlib.Core.Path.{◌≡◌, refl}
use mathlib.Core.Logic.{⊎_elim}
use mathlib.Core.Bool.{Bool, true, false, cond}
use mathlib.Core.List.{[], ◌∷◌, tail}
use lib.Dec.{eqb, leb}
use Rattle.units.specs.Round.{down}
use Rattle.units.proofs.Rounding.{down-greatest}
use Rattle.header.specs.declared.Header.{Header}
use Rattle.header.proofs.Bounds.{choice, bounds}
use Rattle.registers.proofs.Lowest.{bit-most}
use Rattle.codes.specs.Codes.{bits, burst, al, cl_of_code, wr_of_code}
use Rattle.chip.specs.declared.Chip.{Chip}
use Rattle.chip.specs.declared.Regs.{Regs}
use Rattle.chip.specs.Chip.{chip_of}
use Rattle.chip.specs.Latencies.{al_of, cl_of, cwl_of, wr_of, h_of, b_of}
use Rattle.answers.specs.declared.Break.TheVariants.{Fine, Broken}
use Rattle.answers.specs.Back.{Fits}
use Rattle.records.specs.declared.Record.{Record}
use Rattle.records.specs.declared.Command.TheVariants.{Ref, Wr, Rd}
use Rattle.rules.specs.Past.{Past, edge, number, is, bank_of, address_of, a10_of, latest, up_to}
use Rattle.rules.specs.Registers.{regs, rl, wl, h, wr}
use Rattle.rules.specs.Banks.{act_on, is_idle, status}
use Rattle.rules.specs.Rules.{Row, r4, r6, r7, r9, r10, r11, r12r, r12w, r13, r14, r15, r16, r17, r18, r19, r20, r21, r22, r26, r27, r29, r30, to_entry, spacing}
use Rattle.rules.specs.Verdict.{Outcome, clean, stop, verdict_to, shown, shown_verdict, Apart}
use Rattle.rules.proofs.Generic.{decide}
use Rattle.rules.proofs.Events.{number-le}
use Rattle.rules.proofs.Status.{latest-number}
use Rattle.rules.proofs.Facts.{burst-bounds}
use Rattle.means.specs.Partners.{Fourth}
use Rattle.means.specs.Pairs.{Lacks, code, registers, reset, Pair, other-change, in-the-way, lacking, too-soon, precharging, five-acts, no-refresh}
use Rattle.means.specs.Means.{How, record-did, limit-passed, debt-grew, stay-passed, gap-passed}
use Rattle.means.proofs.Means.{broken-means, never-fine}

-- ── Latencies ───────────────────────────────────────────────────────────────────────────────

cl-most : (k : ℕ) → cl_of_code k ≤ 12
unfolding cl_of_code
cl-most k =
    choice (eqb k 0b0010) 5 _ 12 (omega arith) (choice (eqb k 0b0100) 6 _ 12 (omega arith) (choice (eqb k 0b0110) 7 _ 12 (omega arith)
    (choice (eqb k 0b1000) 8 _ 12 (omega arith) (choice (eqb k 0b1010) 9 _ 12 (omega arith) (choice (eqb k 0b1100) 10 _ 12 (omega arith)
    (choice (eqb k 0b1110) 11 _ 12 (omega arith) (choice (eqb k 0b0001) 12 0 12 (omega arith) (omega arith))))))))

wr-most : (k : ℕ) → wr_of_code k ≤ 16
unfolding wr_of_code
wr-most k =
    choice (eqb k 0b000) 16 _ 16 (omega arith) (choice (eqb k 0b001) 5 _ 16 (omega arith) (choice (eqb k 0b010) 6 _ 16 (omega arith)
    (choice (eqb k 0b011) 7 _ 16 (omega arith) (choice (eqb k 0b100) 8 _ 16 (omega arith) (choice (eqb k 0b101) 10 _ 16 (omega arith)
    (choice (eqb k 0b110) 12 _ 16 (omega arith) (omega arith)))))))

record Latencies (g : Regs) (a : ℕ) : Type 0 where
  cl-low : cl_of g ≤ 12
  al-low : al_of g ≤ 12
  cwl-low : cwl_of g ≤ 12
  h-low : h_of g ≤ 4
  b-low : b_of g a ≤ 4
  wr-low : wr_of g ≤ 16

latencies : (g : Regs) (a : ℕ) → Latencies g a
unfolding al h_of
latencies g a =
    record {
      cl-low = cl-most _;
      al-low = choice (eqb (bits g.mr1 3 2) 0) 0 _ 12 (omega arith) (omega (arith, cl-most (bits g.mr0 4 3 * 2 + bits g.mr0 2 1)));
      cwl-low = omega arith;
      h-low = choice (eqb (burst g.mr0) 2) 2 4 4 (omega arith) (omega arith);
      b-low = (burst-bounds g a).1;
      wr-low = wr-most _;
    }

-- ── Clocks ──────────────────────────────────────────────────────────────────────────────────

-- no clock count of a part is above 320,000
record Low (C : Chip) : Type 0 where
  rcd : C.trcd ≤ 320000
  rp : C.trp ≤ 320000
  rc : C.trc ≤ 320000
  ras : C.tras ≤ 320000
  rrd : C.trrd ≤ 320000
  faw : C.tfaw ≤ 320000
  cke : C.tcke ≤ 320000
  rtp : C.trtp ≤ 320000
  wtr : C.twtr ≤ 320000
  wr : C.twr ≤ 320000
  wait : C.tmod ≤ 320000
  rfc : C.trfc ≤ 320000
  xs : C.txs ≤ 320000
  long : C.zqlong ≤ 320000
  short : C.zqshort ≤ 320000
  most : C.most ≤ 320000
  xp : C.txp ≤ 320000
  xpdll : C.txpdll ≤ 320000
  nine : C.nine ≤ 320000

low : (h : Header) → 1070 ≤ h.period.ps → Low (chip_of h)
unfolding chip_of
low h least =
    let b = bounds h in
    let p = h.period.ps in
    let most = choice h.hot 35100000 70000000 70000000 (omega arith) (omega arith) in
    let limit = (down-greatest (cond h.hot 35100000 70000000) p (omega arith)).not-longer in
    let refi : (x : Bool) → down (cond x 3900000 7800000) p * 1070 ≤ down (cond x 3900000 7800000) p * p = λ x. mul-le-mul_left (down (cond x 3900000 7800000) p) least in
    let interval : (x : Bool) → down (cond x 3900000 7800000) p * p ≤ 7800000 = λ x.
    let l = (down-greatest (cond x 3900000 7800000) p (omega arith)).not-longer in
    omega (arith, choice x 3900000 7800000 7800000 (omega arith) (omega arith)) in
    record {
      rcd = omega (arith, b.rcd);
      rp = omega (arith, b.rp);
      rc = omega (arith, b.rc);
      ras = omega (arith, b.ras);
      rrd = omega (arith, b.rrd);
      faw = omega (arith, b.faw);
      cke = omega (arith, b.cke);
      rtp = omega (arith, b.rtp);
      wtr = omega (arith, b.wtr);
      wr = omega (arith, b.wr);
      wait = omega (arith, b.wait);
      rfc = omega (arith, b.rfc);
      xs = omega (arith, b.xs);
      long = omega (arith, b.long);
      short = omega (arith, b.short);
      most = omega (arith, most, limit, mul-le-mul_left (down (cond h.hot 35100000 70000000) p) least);
      xp = omega (arith, b.xp);
      xpdll = omega (arith, b.xpdll);
      nine = omega (arith, refi h.hot, interval h.hot);
    }

module _ (C : Chip) (L : Low C) where
  entry-most : (s : Past) → to_entry C s ≤ 320100
  unfolding to_entry
  entry-most s =
      let l = latencies (regs s) 0 in
      choice (is Rd s) (rl s + 5) _ 320100 (omega (arith, l.al-low, l.cl-low))
      (choice (is Wr s) _ C.tmod 320100
      (choice (a10_of s) (wl s + h s + wr s + 1) (wl s + h s + C.twr) 320100
      (omega (arith, l.al-low, l.cwl-low, l.h-low, l.wr-low)) (omega (arith, L.wr, l.al-low, l.cwl-low, l.h-low)))
      (omega (arith, L.wait)))

  need-most : (x : Row) (s : Past) → (spacing C x).need s ≤ 320100
  need-most r4 s = max-le (omega (arith, L.rcd)) (omega arith)
  need-most r6 s = omega (arith, L.rc)
  need-most r7 s = omega (arith, L.rrd)
  need-most r9 s = omega (arith, L.ras)
  need-most r10 s = let l = latencies (regs s) 0 in omega (arith, L.rtp, l.al-low)
  need-most r11 s = let l = latencies (regs s) 0 in omega (arith, L.wr, l.al-low, l.cwl-low, l.h-low)
  need-most r12r s = omega arith
  need-most r12w s = omega arith
  need-most r13 s = let l = latencies (regs s) (address_of s) in omega (arith, l.cl-low, l.b-low)
  need-most r14 s = let l = latencies (regs s) 0 in omega (arith, L.wtr, l.cwl-low, l.h-low)
  need-most r15 s = omega (arith, L.rfc)
  need-most r16 s = omega arith
  need-most r17 s = omega (arith, L.wait)
  need-most r18 s = choice (a10_of s) C.zqlong C.zqshort 320100 (omega (arith, L.long)) (omega (arith, L.short))
  need-most r19 s = let l = latencies (regs s) (address_of s) in omega (arith, l.al-low, l.cl-low, l.b-low)
  need-most r20 s = omega arith
  need-most r21 s = omega (arith, L.xs)
  need-most r22 s = omega (arith, L.cke)
  need-most r26 s = entry-most s
  need-most r27 s = omega (arith, L.cke)
  need-most r29 s = omega (arith, L.xp)
  need-most r30 s = omega (arith, L.xpdll)

  name-most : (x : Row) → (spacing C x).name ≤ 31
  name-most r4 = omega arith
  name-most r6 = omega arith
  name-most r7 = omega arith
  name-most r9 = omega arith
  name-most r10 = omega arith
  name-most r11 = omega arith
  name-most r12r = omega arith
  name-most r12w = omega arith
  name-most r13 = omega arith
  name-most r14 = omega arith
  name-most r15 = omega arith
  name-most r16 = omega arith
  name-most r17 = omega arith
  name-most r18 = omega arith
  name-most r19 = omega arith
  name-most r20 = omega arith
  name-most r21 = omega arith
  name-most r22 = omega arith
  name-most r26 = omega arith
  name-most r27 = omega arith
  name-most r29 = omega arith
  name-most r30 = omega arith

  -- ── Pairs ─────────────────────────────────────────────────────────────────────────────────

  -- what a broken rule tells, of a recording of so many records
  record Told (records rule partner needed found : ℕ) : Type 0 where
    by-rule : rule ≤ 31
    by-partner : partner ≤ records
    by-needed : needed ≤ 320100
    by-found : found ≤ 320100

  told : {n k x m f : ℕ} → k ≤ 31 → x ≤ n → m ≤ 320100 → f ≤ 320100 → Told n k x m f
  told a b c d = record { by-rule = a; by-partner = b; by-needed = c; by-found = d }

  tail-number : (p : Past) → number (tail p) ≤ number p
  tail-number [] = omega arith
  tail-number (r ∷ p) = omega arith

  fourth-number : (p s : Past) → Fourth p s → number s ≤ number p
  fourth-number p s (a, b, c, w, x, y, z) =
      omega
      (arith, number-le w.event, number-le x.event, number-le y.event, number-le z.event, tail-number a, tail-number b, tail-number c)

  lack-most : {r : Record} {p : Past} {f : ℕ} → Lacks C r p f → f ≤ 17
  lack-most {r = r} {p = p} (code y z) = bit-most C.header (bank_of (r ∷ p)) r.a
  lack-most (registers y z) = omega arith
  lack-most (reset y z) = omega arith

  pair-told : {r : Record} {p : Past} {k x m f : ℕ} → Pair C r p x m f k → Told (number (r ∷ p)) k x m f
  pair-told (other-change y n c) = told (omega arith) (omega arith) (omega (arith, c.0)) (omega (arith, c.1))
  pair-told {r = r} {p = p} (in-the-way w) =
      let act = number (latest (act_on w.bank) p) in
      told (omega arith)
      (omega (arith, w.partner-is, choice (is_idle (status C w.bank p (edge (r ∷ p)))) 0 act (number p) (omega arith) (latest-number (act_on w.bank) p)))
      (omega (arith, w.clocks.0)) (omega (arith, w.clocks.1))
  pair-told (lacking l n c) = told (omega arith) (omega arith) (omega (arith, c)) (omega (arith, lack-most l))
  pair-told (too-soon x w) =
      let m = need-most x w.event in
      told (omega (arith, name-most x)) (omega (arith, w.partner-is, number-le w.within)) (omega (arith, w.needed-is, m)) (omega (arith, w.too_few, w.needed-is, m))
  pair-told (precharging w) =
      told (omega arith) (omega (arith, w.partner-is, number-le w.latest-start.event)) (omega (arith, w.needed-is, L.rp)) (omega (arith, w.too_few, w.needed-is, L.rp))
  pair-told {p = p} (five-acts w) =
      told (omega arith) (omega (arith, w.partner-is, fourth-number p w.event w.fourth-back)) (omega (arith, w.needed-is, L.faw)) (omega (arith, w.too_few, w.needed-is, L.faw))
  pair-told (no-refresh w) =
      told (omega arith) (omega (arith, w.partner-is, number-le w.latest-of.event)) (omega (arith, w.clocks.0)) (omega (arith, w.clocks.1))

  -- ── The verdict ───────────────────────────────────────────────────────────────────────────

  up-to-number : (t : ℕ) (q : Past) → number (up_to t q) ≤ number q
  up-to-number t [] = omega arith
  up-to-number t (r ∷ q) = ⊎_elim
      (λ (y : leb (edge (r ∷ q)) t ≡ true). rw y (omega arith))
      (λ (z : leb (edge (r ∷ q)) t ≡ false). rw z (omega (arith, up-to-number t q)))
      (decide (leb (edge (r ∷ q)) t))

  how-told : {q : Past} {t n x m f k : ℕ} → How C q t n x m f k → (n ≤ number q) × Told (number q) k x m f
  how-told (record-did i e l w) =
      let v = pair-told w in
      let of = number-le i in
      (omega arith, told v.by-rule (omega (arith, v.by-partner)) v.by-needed v.by-found)
  how-told {q = q} {t = t} (limit-passed e w) = (
    omega arith,
    told (omega arith)
        (omega (arith, w.partner-is, latest-number (act_on w.bank) (up_to (t - 1) q), up-to-number (t - 1) q))
        (omega (arith, w.needed-is, L.most)) (omega (arith, w.found-is, L.most)),
  )
  how-told {q = q} {t = t} (stay-passed e w) = (
    omega arith,
    told (omega arith) (omega (arith, w.partner-is, number-le w.latest-of.event, up-to-number (t - 1) q))
        (omega (arith, w.needed-is, L.nine)) (omega (arith, w.found-is, L.nine)),
  )
  how-told {q = q} {t = t} (gap-passed e w) = (
    omega arith,
    told (omega arith) (omega (arith, w.partner-is, latest-number (is Ref) (up_to (t - 1) q), up-to-number (t - 1) q))
        (omega (arith, w.needed-is, L.nine)) (omega (arith, w.found-is, L.nine)),
  )
  how-told {q = q} {t = t} (debt-grew e w) = (
    omega arith,
    told (omega arith) (omega (arith, w.partner-is, latest-number (is Ref) (up_to t q), up-to-number t q))
        (omega (arith, w.needed-is)) (omega (arith, w.found-is)),
  )

-- the verdict on records apart, within the limits on records and end edge
pub shown-fits : (h : Header) → 1070 ≤ h.period.ps → (q : Past) → Apart q → number q ≤ 1048576 → (end : ℕ) → end ≤ 17592186044416
    → Fits (shown_verdict (chip_of h) q end)
shown-fits h least q apart few end near = go (verdict_to (chip_of h) q end) refl
  where
    go : (v : Outcome) → verdict_to (chip_of h) q end ≡ v → Fits (shown v (number q) end)
    go clean e = omega arith
    go (stop t n Fine) e = absurd (never-fine (chip_of h) q apart end t n e)
    go (stop t n (Broken k x m f)) e =
        let w = broken-means (chip_of h) q apart end t n k x m f e in
        let v = how-told (chip_of h) (low h least) w.how in
        record {
          outcome_fits = omega arith;
          rule_fits = omega (arith, v.1.by-rule);
          number_fits = omega (arith, v.0);
          partner-fits = omega (arith, v.1.by-partner);
          edge-fits = omega (arith, w.to_end);
          needed-fits = omega (arith, v.1.by-needed);
          found-fits = omega (arith, v.1.by-found);
        }
