-- Where the first blank of a line stands, and the words that blanks separate.
use Rattle.std.specs.Prelude.{◌≡◌, ℕ, ◌+◌, ◌-◌, ◌<◌, ◌≤◌, ◌==◌, List, [], length, take, drop, ◌≢◌, Some, None, Option, slice_index}
use Rattle.std.specs.Borrow.{Bor}
use Rattle.std.specs.List.{slice_split}
use Rattle.words.specs.declared.split.Words.{Words}

-- n is its place, or the line's length where there is none
pub record FirstBlank (line : List ℕ) (n : ℕ) : Type 0 where
  pub within : n ≤ length line
  pub before : (k : ℕ) → k < n → slice_index line k ≢ 32
  pub found : n < length line → slice_index line n ≡ 32

-- what stands after the blank at n, and nothing where n is the line's length
abbrev pub AfterBlank : List ℕ → ℕ → Option (Bor (List ℕ)) → Type 0
AfterBlank line n None = n ≡ length line
AfterBlank line n (Some s) = (n < length line) × (s.now ≡ take (length line - (n + 1)) (drop (n + 1) line))

-- the parts of a line that single blanks separate
abbrev pub words_of : List ℕ → List (List ℕ)
words_of line = slice_split (λ b. b == 32) line

-- the words of the rest of a line, if there is one
abbrev pub words_after : Option (Bor (List ℕ)) → List (List ℕ)
words_after None = []
words_after (Some rest) = words_of rest.now

-- the words that an iterator has left
abbrev pub words_left : Words → List (List ℕ)
words_left words = words_after words.0
