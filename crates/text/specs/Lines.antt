-- How a text falls into lines. A line ends with byte 10; the last may lack it.
use Rattle.std.specs.Prelude.{ℕ, ◌+◌, ◌<◌, Bool, cond, List, [], ◌∷◌, ◌++◌, length, take, drop, Some, None, Option, ◌==◌}
use Rattle.text.specs.declared.next.Lines.{Lines}
use Rattle.text.specs.declared.next.Next.{Next}

abbrev pub end : ℕ → Bool
end b = b == 10

-- how many bytes stand before the first byte 10, or all of them
abbrev pub until_end : List ℕ → ℕ
until_end [] = 0
until_end (b ∷ bs) = cond (end b) 0 (until_end bs + 1)

-- the first byte 10 is the last byte
abbrev pub ended : List ℕ → Bool
ended line = until_end line + 1 == length line

abbrev pub first_line : List ℕ → List ℕ
first_line text = take (until_end text + 1) text

abbrev pub after_line : List ℕ → List ℕ
after_line text = drop (until_end text + 1) text

-- the first line and what follows it; an empty text has no line
abbrev pub next_of : List ℕ → Option (List ℕ × List ℕ)
next_of text = cond (length text == 0) None (Some (first_line text, after_line text))

abbrev pub handed : Option Next → Option (List ℕ × List ℕ)
handed None = None
handed (Some n) = Some (n.line.now, n.rest.now)

-- a byte before the first of some lines
abbrev pub onto : ℕ → List (List ℕ) → List (List ℕ)
onto b [] = (b ∷ []) ∷ []
onto b (l ∷ ls) = (b ∷ l) ∷ ls

-- the lines of a text, each with its byte 10
abbrev pub lines_of : List ℕ → List (List ℕ)
lines_of [] = []
lines_of (b ∷ bs) = cond (end b) ((b ∷ []) ∷ lines_of bs) (onto b (lines_of bs))

-- lines put together again
abbrev pub rejoined : List (List ℕ) → List ℕ
rejoined [] = []
rejoined (l ∷ ls) = l ++ rejoined ls

-- the first line before those of what follows it
abbrev pub lines_from : Option (List ℕ × List ℕ) → List (List ℕ)
lines_from None = []
lines_from (Some p) = p.0 ∷ lines_of p.1

-- what follows a line is shorter than the text that begins with the line
abbrev pub Shorter : List ℕ → Option (List ℕ × List ℕ) → Type 0
Shorter text None = Unit {0}
Shorter text (Some p) = length p.1 < length text

-- the lines that an iterator has left
abbrev pub lines_left : Lines → List (List ℕ)
lines_left lines = lines_of lines.rest.now
