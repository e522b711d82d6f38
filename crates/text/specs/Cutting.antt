-- The columns of a plan line.
use Rattle.std.specs.Prelude.{ℕ, ◌+◌, ◌-◌, ◌*◌, Bool, cond, ◌&&◌, List, length, take, drop, Ok, Err, Result, ◌==◌, nat_le, slice_index}
use Rattle.text.specs.declared.line.Line.{Line}
use Rattle.text.specs.declared.line.Line.TheVariants.{Datum, Tab, Remark}
use Rattle.text.specs.declared.refusal.Cause.{Cause}
use Rattle.text.specs.declared.refusal.Cause.TheVariants.{Letter, Length}
use Rattle.text.specs.declared.refusal.Fault.{Fault}
use Rattle.text.specs.Lines.{ended}

-- the columns of a datum or of a tab, or the bytes of a remark
pub data Parts : Type 0 where
  datum : List ℕ → List ℕ → List ℕ → Parts
  tab : List ℕ → List ℕ → Parts
  remark : List ℕ → Parts

abbrev pub parted : Line → Parts
parted (Datum x y pitch) = datum x.now y.now pitch.now
parted (Tab x y) = tab x.now y.now
parted (Remark bytes) = remark bytes.now

abbrev pub seen : Result Line Fault → Result Parts Fault
seen (Ok line) = Ok (parted line)
seen (Err fault) = Err fault

abbrev pub at_byte : ℕ → Cause → Fault
at_byte byte cause = record { cause = cause; byte = byte }

-- a fault of the whole line
abbrev pub at_start : Cause → Fault
at_start cause = at_byte 0 cause

-- column k of a line, from 0: 14 bytes after the letter
abbrev pub column : ℕ → List ℕ → List ℕ
column k line = take 14 (drop (1 + 14 * k) line)

-- a letter, that many columns and byte 10
abbrev pub sized : ℕ → List ℕ → Bool
sized columns line = length line == 2 + 14 * columns && ended line

abbrev pub cut_datum : List ℕ → Result Parts Fault
cut_datum line = cond (sized 3 line) (Ok (datum (column 0 line) (column 1 line) (column 2 line))) (Err (at_start Length))

abbrev pub cut_tab : List ℕ → Result Parts Fault
cut_tab line = cond (sized 2 line) (Ok (tab (column 0 line) (column 1 line))) (Err (at_start Length))

-- a letter, at most 78 bytes and byte 10
abbrev pub remark_sized : List ℕ → Bool
remark_sized line = nat_le 2 (length line) && nat_le (length line) 80 && ended line

abbrev pub cut_remark : List ℕ → Result Parts Fault
cut_remark line = cond (remark_sized line) (Ok (remark (take (length line - 1 - 1) (drop 1 line)))) (Err (at_start Length))

-- the letters D, T and # are the bytes 68, 84 and 35
abbrev pub cut_of : List ℕ → Result Parts Fault
cut_of line =
    cond (slice_index line 0 == 68) (cut_datum line)
    (cond (slice_index line 0 == 84) (cut_tab line)
    (cond (slice_index line 0 == 35) (cut_remark line)
    (Err (at_start Letter))))
