-- Reading one digit more.
use Rattle.std.proofs.Common.{◌≡◌, ℕ, ◌+◌, ◌≤◌, ◌<◌, List, length, get_or, drop, Some, Option, sym, ap, ◌∙◌, add-one, drop-cons}
use Rattle.std.proofs.lemmas.List.{drop_all}
use Rattle.words.specs.Reading.{next, read_on}

module _ (more : ℕ → ℕ → Option ℕ) (n i : ℕ) (cs : List ℕ) where
  pub read_on_step : i < length cs → read_on more n (drop i cs) ≡ next (more n (get_or cs i 0)) (λ m. read_on more m (drop (i + 1) cs))
  unfolding read_on
  read_on_step h = ap (read_on more n) (drop-cons cs i 0 h) ∙ ap (λ (x : ℕ). next (more n (get_or cs i 0)) (λ m. read_on more m (drop x cs))) (sym (add-one i))

  pub read_on_end : length cs ≤ i → read_on more n (drop i cs) ≡ Some n
  unfolding read_on
  read_on_end h = ap (read_on more n) (drop_all i cs h)
