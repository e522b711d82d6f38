-- A round over the digits of every column and then one over the range of every number find the leftmost column of the lower cause.
use Rattle.std.proofs.Common.{◌≡◌, ℕ, zero, suc, ◌+◌, ◌*◌, ◌<◌, Bool, true, false, cond, ◌||◌, List, [], ◌∷◌, length, get_or, map, ℤ, pos, negsuc, Some, None, Ok, Err, Option, Result, sym, refl, ap, ◌∙◌, arith}
use lib.Signed.{lt_z}
use Rattle.std.proofs.lemmas.Bool.{cond-true, cond-false}
use Rattle.std.proofs.lemmas.List.{get_or-map, get_or_default, length-map, same_lists}
use Rattle.text.specs.declared.refusal.Cause.{Cause}
use Rattle.text.specs.declared.refusal.Cause.TheVariants.{Digits, Range}
use Rattle.text.specs.declared.refusal.Fault.{Fault}
use Rattle.std.specs.Borrow.{Bor}
use Rattle.text.specs.Columns.{judged, narrowed, wide_of}
use Rattle.text.specs.Cutting.{at_byte}
use Rattle.text.specs.Judging.{digits_at, has, leftmost, narrow_at, number_of, numbers_of, or_else, range_at, unless, wides_of}

module _ (cause : Cause) where
  none_has : (rs : List (Result ℤ Cause)) (byte : ℕ) → ((k : ℕ) → k < length rs → has cause (get_or rs k (Ok (pos 0))) ≡ false) →
      leftmost cause byte rs ≡ None
  none_has [] byte h = refl
  none_has (r ∷ rs) byte h = cond-false _ _ _ (h 0 (omega arith)) ∙ none_has rs (byte + 14) (λ k l. h (suc k) (omega arith))

  first_has : (rs : List (Result ℤ Cause)) (byte k : ℕ) → k < length rs → ((j : ℕ) → j < k → has cause (get_or rs j (Ok (pos 0))) ≡ false) →
      has cause (get_or rs k (Ok (pos 0))) ≡ true → leftmost cause byte rs ≡ Some (at_byte (byte + 14 * k) cause)
  first_has [] byte k l h e = absurd (omega arith)
  first_has (r ∷ rs) byte zero l h e =
      let s : byte ≡ byte + 14 * 0 = omega arith in
      cond-true _ _ _ e ∙ ap (λ (n : ℕ). Some (at_byte n cause)) s
  first_has (r ∷ rs) byte (suc k) l h e =
      let s : byte + 14 + 14 * k ≡ byte + 14 * suc k = omega arith in
      cond-false _ _ _ (h 0 (omega arith))
      ∙ first_has rs (byte + 14) k (omega arith) (λ j m. h (suc j) (omega arith)) e
      ∙ ap (λ (n : ℕ). Some (at_byte n cause)) s

outside : ℤ → Bool
outside z = lt_z z (negsuc 2147483647) || lt_z (pos 2147483647) z

has_digits_by : (z : ℤ) (v : Bool) → has Digits (cond v (Err Range) (Ok z)) ≡ false
has_digits_by z true = refl
has_digits_by z false = refl

-- a number has digits
narrowed_has : (z : ℤ) → has Digits (narrowed z) ≡ false
unfolding outside
narrowed_has z = has_digits_by z (outside z)

pub digits_err : (byte : ℕ) (o : Option ℤ) (fault : Fault) → digits_at byte o ≡ Err fault → (o ≡ None) × (fault ≡ at_byte byte Digits)
digits_err byte None fault e = (refl, cc)
digits_err byte (Some y) fault e = absurd cc

err_by : (v : Bool) (byte : ℕ) (y : ℤ) (fault : Fault) → range_at byte (cond v (Err Range) (Ok y)) ≡ Err fault →
    (cond v (Err Range) (Ok y) ≡ Err Range) × (fault ≡ at_byte byte Range)
err_by true byte y fault e = (refl, cc)
err_by false byte y fault e = absurd cc

pub narrow_err : (byte : ℕ) (y : ℤ) (fault : Fault) → narrow_at byte y ≡ Err fault → (narrowed y ≡ Err Range) × (fault ≡ at_byte byte Range)
unfolding outside
narrow_err byte y fault e = err_by (outside y) byte y fault e

same_numbers : (rs : List (Result ℤ Cause)) (ns : List ℤ) → length ns ≡ length rs →
    ((j : ℕ) → j < length rs → get_or rs j (Ok (pos 0)) ≡ Ok (get_or ns j (pos 0))) → ns ≡ map number_of rs
same_numbers rs ns l h =
    same_lists ns (map number_of rs) (omega (arith, length-map rs number_of))
    (λ k d m.
    let n : k < length rs = omega arith in
    get_or_default ns k d (pos 0) m ∙ sym (get_or-map number_of rs k (Ok (pos 0)) d n ∙ ap number_of (h k n)))

module _ (cs : List (Option ℤ)) (ws : List ℤ) where
  read_at : (j : ℕ) → j < length cs → get_or cs j None ≡ Some (get_or ws j (pos 0)) → get_or (map judged cs) j (Ok (pos 0)) ≡ narrowed (get_or ws j (pos 0))
  read_at j h e = get_or-map judged cs j None (Ok (pos 0)) h ∙ ap judged e

  -- column i is the first without digits
  pub no_digits : (i : ℕ) → i < length cs → ((j : ℕ) → j < i → get_or cs j None ≡ Some (get_or ws j (pos 0))) → get_or cs i None ≡ None →
      numbers_of (map judged cs) ≡ Err (at_byte (1 + 14 * i) Digits)
  no_digits i h p e =
      let rs = map judged cs in
      let found = first_has Digits rs 1 i (omega (arith, length-map cs judged))
      (λ j l. ap (has Digits) (read_at j (omega arith) (p j l)) ∙ narrowed_has (get_or ws j (pos 0)))
      (ap (has Digits) (get_or-map judged cs i None (Ok (pos 0)) h ∙ ap judged e)) in
      ap (λ (o : Option Fault). unless (or_else o (leftmost Range 1 rs)) (map number_of rs)) found

  module _ (p : (j : ℕ) → j < length cs → get_or cs j None ≡ Some (get_or ws j (pos 0))) (ns : List ℤ) where
    all_digits : leftmost Digits 1 (map judged cs) ≡ None
    all_digits = none_has Digits (map judged cs) 1
        (λ j l. let m : j < length cs = omega (arith, length-map cs judged) in ap (has Digits) (read_at j m (p j m)) ∙ narrowed_has (get_or ws j (pos 0)))

    -- every column has digits, and column i is the first with a number out of range
    pub out_of_range : (i : ℕ) → i < length cs → ((j : ℕ) → j < i → narrowed (get_or ws j (pos 0)) ≡ Ok (get_or ns j (pos 0))) →
        narrowed (get_or ws i (pos 0)) ≡ Err Range → numbers_of (map judged cs) ≡ Err (at_byte (1 + 14 * i) Range)
    out_of_range i h q e =
        let rs = map judged cs in
        let found = first_has Range rs 1 i (omega (arith, length-map cs judged))
        (λ j l. let m : j < length cs = omega arith in ap (has Range) (read_at j m (p j m) ∙ q j l))
        (ap (has Range) (read_at i h (p i h) ∙ e)) in
        ap (λ (o : Option Fault). unless (or_else o (leftmost Range 1 rs)) (map number_of rs)) all_digits
        ∙ ap (λ (o : Option Fault). unless o (map number_of rs)) found

    -- every column has a number
    pub all_numbers : length ns ≡ length cs → ((j : ℕ) → j < length cs → narrowed (get_or ws j (pos 0)) ≡ Ok (get_or ns j (pos 0))) →
        Ok ns ≡ numbers_of (map judged cs)
    all_numbers n q =
        let rs = map judged cs in
        let in_range = λ (j : ℕ) (l : j < length rs). let m : j < length cs = omega (arith, length-map cs judged) in read_at j m (p j m) ∙ q j m in
        let none = none_has Range rs 1 (λ j l. ap (has Range) (in_range j l)) in
        ap Ok (same_numbers rs ns (omega (arith, length-map cs judged)) in_range)
        ∙ sym (ap (λ (o : Option Fault). unless (or_else o (leftmost Range 1 rs)) (map number_of rs)) all_digits
        ∙ ap (λ (o : Option Fault). unless o (map number_of rs)) none)

-- what a column writes
pub read_wide : (columns : List (Bor (List ℕ))) (k : ℕ) (d : Bor (List ℕ)) → k < length columns → get_or (wides_of columns) k None ≡ wide_of (get_or columns k d).now
read_wide columns k d h = get_or-map (λ (column : Bor (List ℕ)). wide_of column.now) columns k d None h

pub count_wide : (columns : List (Bor (List ℕ))) → length (wides_of columns) ≡ length columns
count_wide columns = length-map columns (λ (column : Bor (List ℕ)). wide_of column.now)

-- what numbers come to is refused as they are, and made of them where they are not
pub err_unless : {X : Type 0} (o : Option Fault) (ns : List ℤ) (fault : Fault) (x : X) → unless o ns ≡ Err fault → Err fault ≡ unless o x
err_unless None ns fault x e = absurd cc
err_unless (Some other) ns fault x e = let s : other ≡ fault = cc in sym (ap Err s)

pub ok_unless : {X : Type 0} (o : Option Fault) (ns ms : List ℤ) (f : List ℤ → X) → unless o ns ≡ Ok ms → Ok (f ms) ≡ unless o (f ns)
ok_unless None ns ms f e = let s : ns ≡ ms = cc in sym (ap (λ (l : List ℤ). Ok (f l)) s)
ok_unless (Some other) ns ms f e = absurd cc
