-- One answer for each public contract.
-- Assumes nothing.
use Prim.Native.Nat.{ℕ}
use Rattle.laws.proofs.Unique.{Unique, one_answer}
use Rattle.codes.specs.Codes.{cl, wr, resets, al, cwl, rl, wl}
use Rattle.codes.specs.Promises.{Cl, Wr, Resets, Al, Cwl, Rl, Wl}

pub cl-unique : (code : ℕ) → Unique (Cl code)
cl-unique code = one_answer (cl code)

pub wr-unique : (code : ℕ) → Unique (Wr code)
wr-unique code = one_answer (wr code)

pub resets-unique : (code : ℕ) → Unique (Resets code)
resets-unique code = one_answer (resets code)

pub al-unique : (code0 code1 : ℕ) → Unique (Al code0 code1)
al-unique code0 code1 = one_answer (al code0 code1)

pub cwl-unique : (code : ℕ) → Unique (Cwl code)
cwl-unique code = one_answer (cwl code)

pub rl-unique : (code0 code1 : ℕ) → Unique (Rl code0 code1)
rl-unique code0 code1 = one_answer (rl code0 code1)

pub wl-unique : (code0 code1 code2 : ℕ) → Unique (Wl code0 code1 code2)
wl-unique code0 code1 code2 = one_answer (wl code0 code1 code2)
