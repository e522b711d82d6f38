-- A datum and a tab are refused as their columns are, or are made of their numbers.
use Rattle.std.proofs.Common.{◌≡◌, [], ◌∷◌, List, get_or, map, ℤ, pos, Err, sym, ap, ◌∙◌, rules, w32, to_z, of_z}
use Rattle.text.specs.declared.line.Line.{Line}
use Rattle.text.specs.declared.line.Entry.TheVariants.{Datum, Tab}
use Rattle.text.specs.Columns.{column_of}
use Rattle.text.specs.Cutting.{parted}
use Rattle.text.specs.Judging.{entry_of, fault_of, number_of, numbers_of}
use Rattle.text.proofs.Rounds.{err_unless, ok_unless}
use Rattle.text.proofs.line.Line.entry.Goals as goal

pub returns-in_err-x-in-Datum : goal.returns-in_err-x-in-Datum
returns-in_err-x-in-Datum c =
    let d = c.in-Datum in
    let rs = column_of d.x.now ∷ column_of d.y.now ∷ column_of d.pitch.now ∷ [] in
    let n : c.numbers.result ≡ numbers_of rs = search rules in
    let r : c.from_residual.result ≡ Err c.in_err-x-in-Datum.field-0.0 = search rules in
    r
    ∙ err_unless (fault_of rs) (map number_of rs) c.in_err-x-in-Datum.field-0.0 _ (sym n ∙ c.in_err-x-in-Datum.was)
    ∙ sym (ap (λ (l : Line). entry_of (parted l)) d.is)

pub returns-in_ok-x-in-Datum : goal.returns-in_ok-x-in-Datum
returns-in_ok-x-in-Datum c =
    let d = c.in-Datum in
    let rs = column_of d.x.now ∷ column_of d.y.now ∷ column_of d.pitch.now ∷ [] in
    let ns = c.in_ok-x-in-Datum.field-0 in
    let n : c.numbers.result ≡ numbers_of rs = search rules in
    let x : to_z w32 (of_z w32 (get_or ns 0 (pos 0))) ≡ get_or ns 0 (pos 0) = search rules in
    let y : to_z w32 (of_z w32 (get_or ns 1 (pos 0))) ≡ get_or ns 1 (pos 0) = search rules in
    let pitch : to_z w32 (of_z w32 (get_or ns 2 (pos 0))) ≡ get_or ns 2 (pos 0) = search rules in
    rw (x, y, pitch)
    (ok_unless (fault_of rs) (map number_of rs) ns (λ (l : List ℤ). Datum (get_or l 0 (pos 0)) (get_or l 1 (pos 0)) (get_or l 2 (pos 0)))
    (sym n ∙ c.in_ok-x-in-Datum.was)
    ∙ sym (ap (λ (l : Line). entry_of (parted l)) d.is))

pub returns-in_err-x-in-Tab : goal.returns-in_err-x-in-Tab
returns-in_err-x-in-Tab c =
    let t = c.in-Tab in
    let rs = column_of t.x.now ∷ column_of t.y.now ∷ [] in
    let n : c.numbers-in-Tab.result ≡ numbers_of rs = search rules in
    let r : c.from_residual-in_err-x-in-Tab.result ≡ Err c.in_err-x-in-Tab.field-0.0 = search rules in
    r
    ∙ err_unless (fault_of rs) (map number_of rs) c.in_err-x-in-Tab.field-0.0 _ (sym n ∙ c.in_err-x-in-Tab.was)
    ∙ sym (ap (λ (l : Line). entry_of (parted l)) t.is)

pub returns-in_ok-x-in-Tab : goal.returns-in_ok-x-in-Tab
returns-in_ok-x-in-Tab c =
    let t = c.in-Tab in
    let rs = column_of t.x.now ∷ column_of t.y.now ∷ [] in
    let ns = c.in_ok-x-in-Tab.field-0 in
    let n : c.numbers-in-Tab.result ≡ numbers_of rs = search rules in
    let x : to_z w32 (of_z w32 (get_or ns 0 (pos 0))) ≡ get_or ns 0 (pos 0) = search rules in
    let y : to_z w32 (of_z w32 (get_or ns 1 (pos 0))) ≡ get_or ns 1 (pos 0) = search rules in
    rw (x, y)
    (ok_unless (fault_of rs) (map number_of rs) ns (λ (l : List ℤ). Tab (get_or l 0 (pos 0)) (get_or l 1 (pos 0))) (sym n ∙ c.in_ok-x-in-Tab.was)
    ∙ sym (ap (λ (l : Line). entry_of (parted l)) t.is))
