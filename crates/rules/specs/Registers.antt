-- The registers in force at an event: 01, "Registers", "A kept register is unwritten or its last code", and h and b of
-- "Commands and the 25 rules".
-- Assumes nothing.
use Rattle.std.specs.Prelude.{ℕ, ◌+◌, Bool, ◌&&◌}
use Rattle.records.specs.declared.Command.TheVariants.{Mrs}
use Rattle.codes.specs.Codes.{resets}
use Rattle.chip.specs.declared.Regs.{Regs}
use Rattle.chip.specs.Latencies.{al_of, cl_of, cwl_of, wr_of, h_of, b_of}
use Rattle.rules.specs.Past.{Past, is, on, address_of, latest, has}

-- "MRS (register BA)"
abbrev pub mrs_to : (register : ℕ) → Past → Bool
mrs_to n s = is Mrs s && on n s

-- "A8 DLL reset"
abbrev pub dll_reset : Past → Bool
dll_reset s = mrs_to 0 s && resets (address_of s)

-- "A kept register is unwritten or its last code, A8 as written": the code is 0 while it is unwritten
pub record Register : Type 0 where
  pub written : Bool
  pub code : ℕ

abbrev pub mr : (register : ℕ) → Past → Register
mr n p = record { written = has (mrs_to n) p; code = address_of (latest (mrs_to n) p) }

-- the codes of all four
unfoldable pub regs : Past → Regs
regs p = record { mr0 = (mr 0 p).code; mr1 = (mr 1 p).code; mr2 = (mr 2 p).code; mr3 = (mr 3 p).code }

abbrev pub al : Past → ℕ
al s = al_of (regs s)

abbrev pub cl : Past → ℕ
cl s = cl_of (regs s)

abbrev pub cwl : Past → ℕ
cwl s = cwl_of (regs s)

-- programmed WR
abbrev pub wr : Past → ℕ
wr s = wr_of (regs s)

-- "RL = AL + CL, WL = AL + CWL"
abbrev pub rl : Past → ℕ
rl s = al s + cl s

abbrev pub wl : Past → ℕ
wl s = al s + cwl s

-- "h is 4, but 2 when MR0 fixes four"
abbrev pub h : Past → ℕ
h s = h_of (regs s)

-- "A read's b is 4 for eight words, 2 for four"
abbrev pub b : Past → ℕ
b s = b_of (regs s) (address_of s)
