-- Directories stay when a node or a name comes.
use Rattle.std.specs.Prelude.{IsSome, is_some}
use Rattle.std.proofs.Common.{◌≡◌, cond, ℕ, Bool, true, false, [], ◌∷◌, ◌++◌, length, get_or, Option, None, Some, refl, sym, ap, ◌∙◌, arith}
use Rattle.std.proofs.Math.Seq.{get_or-append_seam}
use Rattle.std.specs.FinMap.{get, insert, get-insert}
use Rattle.sp_base.specs.declared.errno.Errno.{Errno}
use Rattle.sp_base.specs.declared.errno.Errno.TheVariants.{Eperm, Eexist}
use Rattle.kern_model.specs.declared.node.Node.{Node}
use Rattle.kern_model.specs.declared.node.NodeKind.{NodeKind}
use Rattle.kern_model.specs.declared.node.NodeKind.TheVariants.{Directory}
use Rattle.kern_model.specs.Name.{Path, Names, is_same_path}
use Rattle.kern_model.specs.State.{is_directory, is_directory_kind, kind_in}
use Rattle.kern_model.proofs.NamesLaws.{paths_total}
use Rattle.kern_model.proofs.BelowLaws.{same_test, path_from_test}
use Rattle.kern_files.specs.Files.{Files, state_of, create_error, link_error, with_name, with_new}
use Rattle.kern_files.specs.Requests.{IsDirectory}
use Rattle.kern_files.proofs.ListsLaws.{within_length, beside_push}

none_at : (o : Option ℕ) (rest : Option Errno) → None ≡ cond (is_some o) (Some Eexist) rest → o ≡ None
none_at None rest e = refl
none_at (Some n) rest e = absurd cc

-- a node was made, and a name given, only where nothing was
pub free_to_make : (f : Files) (path : Path) → None ≡ create_error f path → get f.names path ≡ None
free_to_make f path e = none_at (get f.names path) _ e

none_unless : (b : Bool) (o : Option ℕ) (rest : Option Errno) → None ≡ cond b (Some Eperm) (cond (is_some o) (Some Eexist) rest) → o ≡ None
none_unless true o rest e = absurd cc
none_unless false o rest e = none_at o rest e

pub free_to_link : (f : Files) (node : ℕ) (path : Path) → None ≡ link_error f node path → get f.names path ≡ None
free_to_link f node path e = none_unless (is_directory (state_of f) node) (get f.names path) _ e

-- a path keeps its node when another one has a name
kept_name : (names : Names) (path other : Path) (node n : ℕ) → get names path ≡ None → get names other ≡ Some n → get (insert names path node) other ≡ Some n
kept_name names path other node n free there =
    get-insert paths_total names path node other ∙ ap (λ b. cond b (Some node) (get names other)) apart ∙ there where
      apart : is_same_path other path ≡ false
      apart = elim (is_same_path other path) as (λ b. is_same_path other path ≡ b → b ≡ false) [
        | true ↦ λ t. (let e : ◌≡◌ {A = Option ℕ} None (Some n) = sym free ∙ ap (get names) (sym (path_from_test other path t)) ∙ there in absurd cc)
        | false ↦ λ t. refl
      ] refl

some_kind : (o : Option Node) → is_directory_kind (kind_in o) ≡ true → IsSome o
some_kind None e = absurd cc
some_kind (Some node) e = refl

-- a directory stays one when a name comes
pub directory_linked : (f : Files) (path : Path) (node n : ℕ) → get f.names path ≡ None → IsDirectory f n → IsDirectory (with_name f path node) n
directory_linked f path node n free d = record { path = d.path; stands = kept_name f.names path d.path node n free d.stands; directory = d.directory }

-- a directory stays one when a node comes
pub directory_made : (f : Files) (path : Path) (kind : NodeKind) (n : ℕ) → get f.names path ≡ None → IsDirectory f n → IsDirectory (with_new f path kind) n
directory_made f path kind n free d =
    let below = within_length f.nodes n (some_kind (get_or f.nodes n None) d.directory) in
    let beside : get_or (f.nodes ++ Some (record { kind = kind; bytes = [] }) ∷ []) n None ≡ get_or f.nodes n None = beside_push f.nodes (Some (record { kind = kind; bytes = [] })) None n (λ e. omega (arith, below, e)) in
    record {
      path = d.path;
      stands = kept_name f.names path d.path (length f.nodes) n free d.stands;
      directory = ap (λ (o : Option Node). is_directory_kind (kind_in o)) beside ∙ d.directory;
    }

new_at : (f : Files) (path : Path) (kind : NodeKind) → get_or (with_new f path kind).nodes (length f.nodes) None ≡ Some (record { kind = kind; bytes = [] })
new_at f path kind = get_or-append_seam f.nodes (Some (record { kind = kind; bytes = [] })) [] None

-- what was made as a directory is one
pub new_directory : (f : Files) (path : Path) (kind : NodeKind) → kind ≡ Directory → IsDirectory (with_new f path kind) (length f.nodes)
new_directory f path kind is = record {
  path = path;
  stands = get-insert paths_total f.names path (length f.nodes) path ∙ ap (λ b. cond b (Some (length f.nodes)) (get f.names path)) (same_test path);
  directory = ap (λ (o : Option Node). is_directory_kind (kind_in o)) (new_at f path kind) ∙ ap is_directory_kind is;
}
