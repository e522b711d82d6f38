-- A text that is written over a part of a list of the same length leaves what stands before and after it.
use Rattle.std.proofs.Common.{◌≡◌, ℕ, List, [], ◌∷◌, ◌++◌, length, drop, replicate, ap, ◌∙◌, arith}
use borrow.Rule.Slice.PartMut.{put_mid}
use Rattle.std.proofs.lemmas.List.{drop_at, length-append, take_at}
use Rattle.text.specs.Pages.{line_text}

-- two columns, written over the front of a line of bytes 10
pub two_columns : (a b : List ℕ) → length a ≡ 14 → length b ≡ 14 → put_mid 14 14 (a ++ replicate 15 10) b ≡ line_text a b
two_columns a b la lb =
    ap (λ (r : List ℕ). r ++ (b ++ drop 14 (drop 14 (a ++ replicate 15 10)))) (take_at a (replicate 15 10) 14 la)
    ∙ ap (λ (r : List ℕ). a ++ (b ++ drop 14 r)) (drop_at a (replicate 15 10) 14 la)

pub line_length : (a b : List ℕ) → length a ≡ 14 → length b ≡ 14 → length (line_text a b) ≡ 29
line_length a b la lb = omega (arith, length-append a (b ++ (10 ∷ [])), length-append b (10 ∷ []))
