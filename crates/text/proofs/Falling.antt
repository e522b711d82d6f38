-- The first byte 10 parts a text into its first line and the lines after it: by induction on the text.
use Rattle.std.proofs.Common.{◌≡◌, ℕ, ◌+◌, Bool, true, false, cond, not, List, [], ◌∷◌, length, take, drop, sym, refl, ap, ◌∙◌, add-one, arith}
use Rattle.std.proofs.lemmas.Bool.{cond-false, ne_eqb}
use Rattle.std.specs.List.{prefix_len}
use Rattle.text.specs.Lines.{after_line, end, first_line, lines_from, lines_of, next_of, onto, rejoined, until_end}

passed_by : (v : Bool) (m n : ℕ) → m ≡ n → cond v 0 (m + 1) ≡ cond (not v) (1 + n) 0
passed_by true m n e = refl
passed_by false m n e = omega arith

-- the bytes before the first byte 10 are those that are passed
pub until_end_passed : (t : List ℕ) → until_end t ≡ prefix_len (λ (b : ℕ). not (end b)) t
until_end_passed [] = refl
until_end_passed (b ∷ bs) = passed_by (end b) (until_end bs) _ (until_end_passed bs)

-- a text that begins with b, which ends a line or not
lines_by : (v : Bool) (b : ℕ) (bs : List ℕ) →
    onto b (lines_of bs) ≡ (b ∷ first_line bs) ∷ lines_of (after_line bs) →
    cond v ((b ∷ []) ∷ lines_of bs) (onto b (lines_of bs))
    ≡ take (cond v 0 (until_end bs + 1) + 1) (b ∷ bs) ∷ lines_of (drop (cond v 0 (until_end bs + 1) + 1) (b ∷ bs))
lines_by true b bs h = refl
lines_by false b bs h = rw (add-one (until_end bs + 1)) h

lines_first : (b : ℕ) (bs : List ℕ) → lines_of (b ∷ bs) ≡ first_line (b ∷ bs) ∷ lines_of (after_line (b ∷ bs))
lines_first b [] = lines_by (end b) b [] refl
lines_first b (c ∷ cs) = lines_by (end b) b (c ∷ cs) (ap (onto b) (lines_first c cs))

-- the lines of a text are its first line and the lines of what follows it
pub lines_next : (t : List ℕ) → lines_of t ≡ lines_from (next_of t)
lines_next [] = refl
lines_next (b ∷ bs) = lines_first b bs ∙ sym (ap lines_from (cond-false _ _ _ (ne_eqb (length (b ∷ bs)) 0 (λ e. absurd (omega (arith, e))))))

rejoined_onto : (b : ℕ) (ls : List (List ℕ)) → rejoined (onto b ls) ≡ b ∷ rejoined ls
rejoined_onto b [] = refl
rejoined_onto b (l ∷ ls) = refl

rejoined_by : (v : Bool) (b : ℕ) (bs : List ℕ) → rejoined (lines_of bs) ≡ bs → rejoined (cond v ((b ∷ []) ∷ lines_of bs) (onto b (lines_of bs))) ≡ b ∷ bs
rejoined_by true b bs h = ap (λ (r : List ℕ). b ∷ r) h
rejoined_by false b bs h = rejoined_onto b (lines_of bs) ∙ ap (λ (r : List ℕ). b ∷ r) h

-- the lines of a text hold each of its bytes once
pub lines_rejoined : (t : List ℕ) → rejoined (lines_of t) ≡ t
lines_rejoined [] = refl
lines_rejoined (b ∷ bs) = rejoined_by (end b) b bs (lines_rejoined bs)
