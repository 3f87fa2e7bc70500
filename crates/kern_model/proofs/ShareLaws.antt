-- Where descriptors are closed, the names stay, and so do the nodes and the open files that are still there.
use Rattle.std.specs.Prelude.{slice_set, if◌then◌else◌}
use Rattle.std.proofs.Common.{ℕ, zero, suc, Bool, true, false, Option, Some, None, refl, ◌∙◌}
use Rattle.sp_base.specs.Table.{at}
use Rattle.kern_model.specs.declared.node.Object.{Object}
use Rattle.kern_model.specs.declared.node.Object.TheVariants as object
use Rattle.kern_model.specs.declared.node.OpenFile.{OpenFile}
use Rattle.kern_model.specs.declared.node.Row.{Row}
use Rattle.kern_model.specs.State.{State, rows_of, with_row, stays, without_unused, is_held, let_go_of, let_go_object, let_go, close_row_by, close_row, close_rows}
use Rattle.kern_model.specs.Laws.{Shares}
use Rattle.kern_model.proofs.HeldLaws.{left}

shares_same : (s : State) → Shares s s
shares_same s = record { names = refl; nodes = λ n x e. e; files = λ n x e. e }

shares_both : (s t u : State) → Shares s t → Shares t u → Shares s u
shares_both s t u h k = record { names = k.names ∙ h.names; nodes = λ n x e. h.nodes n x (k.nodes n x e); files = λ n x e. h.files n x (k.files n x e) }

shares_if : (b : Bool) (s t u : State) → Shares s t → Shares s u → Shares s (if b then t else u)
shares_if true s t u h k = h
shares_if false s t u h k = k

shares_unused : (s : State) (node : ℕ) → Shares s (without_unused s node)
shares_unused s node = shares_if (stays s node) s s _ (shares_same s) (record { names = refl; nodes = λ n x e. (left s.nodes node n x e).1; files = λ n x e. e })

shares_let_go_of : (s : State) (o : Object) → Shares s (let_go_of s o)
shares_let_go_of s (object.Node node) = shares_unused s node

shares_let_go_object : (s : State) (file : Option OpenFile) → Shares s (let_go_object s file)
shares_let_go_object s None = shares_same s
shares_let_go_object s (Some file) = shares_let_go_of s file.object

shares_let_go : (s : State) (file : ℕ) → Shares s (let_go s file)
shares_let_go s file =
    let fewer : State = record s { files = slice_set s.files file None } in
    shares_if (is_held s file) s s _ (shares_same s)
    (shares_both s fewer _ (record { names = refl; nodes = λ n x e. e; files = λ n x e. (left s.files file n x e).1 }) (shares_let_go_object fewer (at s.files file)))

shares_close_by : (s : State) (pid fd : ℕ) (row : Option Row) → Shares s (close_row_by s pid fd row)
shares_close_by s pid fd None = shares_same s
shares_close_by s pid fd (Some row) =
    let after = with_row s pid fd None in
    shares_both s after _ (record { names = refl; nodes = λ n x e. e; files = λ n x e. e }) (shares_let_go after row.file)

pub shares_closed : (only_marked : Bool) (s : State) (pid n : ℕ) → Shares s (close_rows only_marked s pid n)
shares_closed only_marked s pid zero = shares_same s
shares_closed only_marked s pid (suc n) =
    let before = close_rows only_marked s pid n in
    shares_both s before _ (shares_closed only_marked s pid n)
    (shares_if _ before (close_row before pid n) before (shares_close_by before pid n (at (rows_of before pid) n)) (shares_same before))
