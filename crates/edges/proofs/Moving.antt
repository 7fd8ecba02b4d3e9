-- A clean record of a frequent command, as the loop does it: arrays stored into, one bank and the floor raised.
-- Assumes nothing.
use Prim.Native.Nat.{ℕ, ◌+◌, ◌/◌, ◌%◌}
use native.Mathlib.Nat.{zero-max}
use mathlib.Core.Bool.{Bool, true, false, cond, not}
use mathlib.Core.Path.{◌≡◌, refl, sym, ap, ◌∙◌}
use lib.Dec.{eqb}
use lib.ListN.{get_or}
use Rattle.records.specs.declared.Record.{Record}
use Rattle.records.specs.declared.Command.{Command}
use Rattle.records.specs.declared.Command.TheVariants.{Pre, Act, Wr, Rd, Nop, Des, Low}
use Rattle.records.specs.Command.{a10, bank_in}
use Rattle.chip.specs.declared.Chip.{Chip}
use Rattle.chip.specs.declared.Regs.{Regs}
use Rattle.running.specs.declared.Asks.{Asks}
use Rattle.running.specs.Easy.{Asked}
use Rattle.running.specs.Next.{start_now}
use Rattle.running.proofs.Asking.{n4-is, n10-is, n11-is, n13-is, n14-is, n19-is, rd-starts, wr-starts}
use Rattle.edges.specs.declared.Banks.{Banks}
use Rattle.edges.specs.declared.Waits.{Waits}
use Rattle.edges.specs.declared.Acts.{Acts}
use Rattle.edges.specs.declared.Floor.{Floor}
use Rattle.edges.specs.declared.Rank.{Rank}
use Rattle.edges.specs.Asks.{four_back}
use Rattle.edges.specs.Next.{start_of, banks_next, acts_next, slow_now, device_next, debt_next}
use Rattle.edges.specs.Says.{command_in}
use Rattle.edges.specs.Step.{moved_of, regs_in}
use Rattle.edges.specs.Floors.{settled}
use Rattle.edges.specs.Ways.{shut_floor, column_floor, col_start, four_at, act_floor, shut_banks, shut_waits, act_banks, act_waits, act_acts, col_banks, col_waits}
use Rattle.edges.proofs.Raising.{Raises, waits-under}
use Rattle.edges.proofs.Ways.{Sized, nop-raises, des-raises, low-raises, act-raises, rd-raises, wr-raises, rd-auto-raises, wr-auto-raises, pre-raises}

-- what rule 8 asks, in two words
four_same : (C : Chip) (A : Acts) → four_back C A ≡ four_at A.at A.no A.turn C.tfaw
four_same C A = go (eqb (get_or A.no ((A.turn + 1) % 4) 0) 0) (get_or A.at ((A.turn + 1) % 4) 0 + C.tfaw)
  where
    go : (x : Bool) (n : ℕ) → cond x 0 n ≡ cond (not x) n 0
    go true n = refl
    go false n = refl

module _ (C : Chip) (s : Rank) (f : Floor) (r : Record) where
  abbrev e : ℕ
  e = s.edge + r.step

  abbrev n : ℕ
  n = s.count + 1

  abbrev own : ℕ
  own = bank_in r

  abbrev B : Banks
  B = s.banks

  abbrev W : Waits
  W = s.waits

  abbrev g : Regs
  g = regs_in s

  abbrev start : Command → ℕ
  start c = start_of C c r e g B

  abbrev four : ℕ
  four = four_back C s.acts

  abbrev slow : Bool
  slow = slow_now B s.device

  -- the rank after a record that leaves the device and the debt alone
  abbrev pub after : Banks → Waits → Acts → Rank
  after B' W' A' =
      record { edge = e; count = n; first = s.first; level = r.cke; debt = s.debt; banks = B'; waits = W'; acts = A'; device = s.device }

  -- group by group
  moved_as :
      (c : Command) (f' : Floor) (B' : Banks) (W' : Waits) (A' : Acts) → command_in s r ≡ c → debt_next C c e s.debt ≡ s.debt
      → banks_next C c r e n g B ≡ B' → Raises C c r e g (start c) four slow f f' W W' → acts_next c e n s.acts ≡ A'
      → device_next C c r e n slow s.device ≡ s.device → moved_of C (settled f s) r ≡ settled f' (after B' W' A')
  unfolding moved_of settled
  moved_as c f' B' W' A' h d b w a v = rw h (λ i. record {
    edge = e;
    count = n;
    first = s.first;
    level = r.cke;
    debt = d i;
    banks = b i;
    waits = waits-under C c r e g (start c) four slow f f' W W' w i;
    acts = a i;
    device = v i;
  })

  module _ (size : Sized s.waits) where
    pub nop-moves : command_in s r ≡ Nop → moved_of C (settled f s) r ≡ settled f (after B W s.acts)
    unfolding debt_next banks_next acts_next device_next
    nop-moves h = moved_as Nop f B W s.acts h refl refl (nop-raises C r e g (start Nop) four slow f W size) refl refl

    pub des-moves : command_in s r ≡ Des → moved_of C (settled f s) r ≡ settled f (after B W s.acts)
    unfolding debt_next banks_next acts_next device_next
    des-moves h = moved_as Des f B W s.acts h refl refl (des-raises C r e g (start Des) four slow f W size) refl refl

    pub low-moves : command_in s r ≡ Low → moved_of C (settled f s) r ≡ settled f (after B W s.acts)
    unfolding debt_next banks_next acts_next device_next
    low-moves h = moved_as Low f B W s.acts h refl refl (low-raises C r e g (start Low) four slow f W size) refl refl

    -- a precharge of the record's bank that starts at the edge x
    abbrev pub shut_by : Banks → (x : ℕ) → Banks
    shut_by K x = shut_banks K own x n

    abbrev pub shut_waits_by : Waits → (x : ℕ) → Waits
    shut_waits_by X x = shut_waits X own x

    pub pre-moves : command_in s r ≡ Pre → a10 r ≡ false
        → moved_of C (settled f s) r ≡ settled (shut_floor f (e + C.trp)) (after (shut_by B e) (shut_waits_by W (e + C.trp)) s.acts)
    unfolding debt_next banks_next acts_next device_next start_now
    pre-moves h z = moved_as Pre _ (shut_by B e) _ s.acts h refl (rw z) (pre-raises C r e g (start Pre) four slow f W size z) refl refl

    module _ (w : Asks) (asked : Asked C (regs_in s) w) where
      abbrev pub act_by : Banks
      act_by = act_banks B w own r.a e n

      abbrev pub act_waits_by : Waits
      act_waits_by = act_waits W C w own e

      abbrev pub act_acts_by : Acts
      act_acts_by = act_acts s.acts e n

      pub act-moves : command_in s r ≡ Act
          → moved_of C (settled f s) r
          ≡ settled (act_floor f (e + C.trrd) (four_at s.acts.at s.acts.no s.acts.turn C.tfaw)) (after act_by act_waits_by act_acts_by)
      unfolding debt_next banks_next acts_next device_next
      act-moves h =
          moved_as Act (act_floor f (e + C.trrd) four) act_by act_waits_by act_acts_by h refl (rw (n4-is C g w asked))
          (act-raises C r e g (start Act) four slow f W size w asked) refl refl
          ∙ ap (λ y. settled (act_floor f (e + C.trrd) y) (after act_by act_waits_by act_acts_by)) (four_same C s.acts)

      abbrev rd_long : Bool
      rd_long = eqb (r.a / 4096 % 2) 1

      -- of a RD (rd) or WR at the place i
      abbrev pub col_by : (rd : Bool) (i : ℕ) → Banks
      col_by rd i = col_banks B w rd rd_long i e n

      abbrev pub col_waits_by : (rd : Bool) → Waits
      col_waits_by rd = col_waits W w rd own e

      pub rd-moves : command_in s r ≡ Rd → a10 r ≡ false
          → moved_of C (settled f s) r ≡ settled (column_floor f w true rd_long e) (after (col_by true own) (col_waits_by true) s.acts)
      unfolding debt_next banks_next acts_next device_next
      rd-moves h z =
          moved_as Rd _ (col_by true own) _ s.acts h refl
          (rw (z, n10-is C g w asked, n13-is C g w asked r.a, n19-is C g w asked r.a))
          (rd-raises C r e g (start Rd) four slow f W size w asked z) refl refl

      pub wr-moves : command_in s r ≡ Wr → a10 r ≡ false
          → moved_of C (settled f s) r ≡ settled (column_floor f w false rd_long e) (after (col_by false (own + 8)) (col_waits_by false) s.acts)
      unfolding debt_next banks_next acts_next device_next
      wr-moves h z =
          moved_as Wr _ (col_by false (own + 8)) _ s.acts h refl
          (rw (z, n11-is C g w asked, n14-is C g w asked))
          (wr-raises C r e g (start Wr) four slow f W size w asked z) refl refl

      rd-start : col_start w C.tras true e (get_or B.actat own 0) ≡ start Rd
      rd-start = rd-starts C g w asked e (get_or B.actat own 0)

      wr-start : col_start w C.tras false e (get_or B.actat own 0) ≡ start Wr
      wr-start = zero-max (e + w.start) ∙ wr-starts C g w asked e (get_or B.actat own 0)

      abbrev pub start_by : (rd : Bool) → ℕ
      start_by rd = col_start w C.tras rd e (get_or B.actat own 0)

      pub rd-auto-moves : command_in s r ≡ Rd → a10 r ≡ true
          → moved_of C (settled f s) r
          ≡ settled (shut_floor (column_floor f w true rd_long e) (start_by true + C.trp))
          (after (shut_by (col_by true own) (start_by true)) (shut_waits_by (col_waits_by true) (start_by true + C.trp)) s.acts)
      unfolding debt_next banks_next acts_next device_next
      rd-auto-moves h z =
          moved_as Rd _ (shut_by (col_by true own) (start Rd)) _ s.acts h refl
          (rw (z, n10-is C g w asked, n13-is C g w asked r.a, n19-is C g w asked r.a))
          (rd-auto-raises C r e g (start Rd) four slow f W size w asked z) refl refl
          ∙ ap (λ x. settled (shut_floor (column_floor f w true rd_long e) (x + C.trp)) (after (shut_by (col_by true own) x) (shut_waits_by (col_waits_by true) (x + C.trp)) s.acts)) (sym rd-start)

      pub wr-auto-moves : command_in s r ≡ Wr → a10 r ≡ true
          → moved_of C (settled f s) r
          ≡ settled (shut_floor (column_floor f w false rd_long e) (start_by false + C.trp))
          (after (shut_by (col_by false (own + 8)) (start_by false)) (shut_waits_by (col_waits_by false) (start_by false + C.trp)) s.acts)
      unfolding debt_next banks_next acts_next device_next
      wr-auto-moves h z =
          moved_as Wr _ (shut_by (col_by false (own + 8)) (start Wr)) _ s.acts h refl
          (rw (z, n11-is C g w asked, n14-is C g w asked))
          (wr-auto-raises C r e g (start Wr) four slow f W size w asked z) refl refl
          ∙ ap (λ x. settled (shut_floor (column_floor f w false rd_long e) (x + C.trp)) (after (shut_by (col_by false (own + 8)) x) (shut_waits_by (col_waits_by false) (x + C.trp)) s.acts)) (sym wr-start)
