-- The first word of a line, and the words after it.
use Rattle.std.proofs.Common.{◌≡◌, ℕ, ◌+◌, ◌-◌, ◌<◌, eqb, false, List, [], ◌∷◌, length, get_or, take, drop, Some, None, Option, sym, arith, subst, length-drop}
use Rattle.std.proofs.lemmas.Bool.{eq-eqb, ne_eqb}
use Rattle.std.proofs.lemmas.List.{take_all}
use Rattle.std.proofs.lemmas.List.Elements.{All-from_get_or}
use Rattle.std.proofs.lemmas.List.Splits.{slice_split_first, slice_split_none}
use Rattle.std.proofs.lemmas.List.Sums.{position_or_len_is}
use Rattle.std.specs.List.{position_or_len}
use Rattle.std.specs.Borrow.{Bor}
use Rattle.words.specs.Blanks.{AfterBlank, FirstBlank, words_after, words_of}

module _ (line : List ℕ) (n : ℕ) (first : FirstBlank line n) where
  place : position_or_len (λ b. eqb b 32) line ≡ n
  place = position_or_len_is (λ b. eqb b 32) line n 0 first.within (λ k h. ne_eqb (get_or line k 0) 32 (first.before k h)) (λ h. eq-eqb (get_or line n 0) 32 (first.found h))

  word_before_blank : n < length line → words_of line ≡ take n line ∷ words_of (take (length line - (n + 1)) (drop (n + 1) line))
  word_before_blank h =
      let split = slice_split_first (λ b. eqb b 32) line 0 (subst (λ m. m < length line) (sym place) h) in
      let whole : take (length line - (n + 1)) (drop (n + 1) line) ≡ drop (n + 1) line = take_all (length line - (n + 1)) (drop (n + 1) line) (omega (arith, length-drop (n + 1) line)) in
      rw whole (rw place at split)

  last_word : n ≡ length line → words_of line ≡ take n line ∷ []
  last_word e =
      let none = All-from_get_or (λ (b : ℕ). eqb b 32 ≡ false) line 0 (λ k h. ne_eqb (get_or line k 0) 32 (first.before k (omega (arith, e)))) in
      rw (slice_split_none (λ b. eqb b 32) line none, take_all n line (omega (arith, e)))

-- the word before the first blank, and those of what stands after it
pub words_from_first : (line : List ℕ) (n : ℕ) (rest : Option (Bor (List ℕ))) → FirstBlank line n → AfterBlank line n rest → words_of line ≡ take n line ∷ words_after rest
words_from_first line n None first h = last_word line n first h
words_from_first line n (Some s) first h = rw h.1 (word_before_blank line n first h.0)
