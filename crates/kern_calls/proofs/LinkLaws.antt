-- What a name more for a node of the tree is to a kernel's state.
use Rattle.std.specs.Prelude.{nat_le, is_some, slice_range, if◌then◌else◌}
use Rattle.std.specs.FinMap.{get, insert}
use Rattle.std.proofs.Common.{◌≡◌, ℕ, ◌+◌, Bool, true, false, List, ◌∷◌, Option, None, Some, refl, sym, ap, subst, ◌∙◌}
use Rattle.std.proofs.lemmas.Bool.{false≢true}
use Rattle.sp_base.specs.declared.errno.Errno.{Errno}
use Rattle.sp_base.specs.declared.errno.Errno.TheVariants.{Enoent, Eperm, Eexist, Emlink}
use Rattle.kern_model.specs.declared.walk.Walked.{Walked as Way}
use Rattle.kern_model.specs.Links.{act_link, link_limit}
use Rattle.kern_model.specs.Name.{Path, name_count}
use Rattle.kern_model.specs.State.{State, is_directory}
use Rattle.kern_model.specs.Step.{Step, failed, answered, fail_if, with_found, with_missing}
use Rattle.kern_model.specs.Walk.{walk}
use Rattle.kern_names.specs.declared.walk.Last.{Last}
use Rattle.kern_open.specs.OpenTables.{OpenTables}
use Rattle.kern_files.specs.Files.{Files, link_error}
use Rattle.kern_calls.specs.Joined.{joined}
use Rattle.kern_calls.specs.Reached.{IsFound, IsMissing}
use Rattle.kern_calls.proofs.MakeLaws.{missing_in}

-- a link by what stands under the new path
abbrev pub link_by : State → ℕ → Way → Step
link_by s node way = with_missing way Eexist s (λ path slash. fail_if slash Enoent s (fail_if (nat_le link_limit (name_count s.names node)) Emlink s (answered 0 (record s { names = insert s.names path node }))))

-- a link of what was found
pub link_found : (s : State) (pid node : ℕ) (old new : List ℕ) (last : Option Last) → IsFound s old (walk s pid old) node last
    → act_link s pid old new ≡ fail_if (is_directory s node) Eperm s (link_by s node (walk s pid new))
link_found s pid node old new last m = ap (λ (w : Way). with_found w s (λ path n named. fail_if (is_directory s n) Eperm s (link_by s n (walk s pid new)))) m.walks

-- a link of another object than a directory
pub link_file : (s : State) (pid node : ℕ) (old new : List ℕ) (last : Option Last) → IsFound s old (walk s pid old) node last → is_directory s node ≡ false
    → act_link s pid old new ≡ link_by s node (walk s pid new)
link_file s pid node old new last m file = link_found s pid node old new last m ∙ ap (λ b. fail_if b Eperm s (link_by s node (walk s pid new))) file

refused : (d t l : Bool) (s : State) (done : Step) (error : Errno) → d ≡ false → t ≡ false → Some error ≡ (if d then Some Eperm else if t then Some Eexist else if l then Some Emlink else None)
    → fail_if l Emlink s done ≡ failed error s
refused true t l s done error d' t' e = absurd (false≢true (sym d'))
refused false true l s done error d' t' e = absurd (false≢true (sym t'))
refused false false true s done error d' t' e = let same : Emlink ≡ error = cc in ap (λ (x : Errno). failed x s) same
refused false false false s done error d' t' e = absurd cc

-- a link that the tree refused has the error that a kernel gives
pub link_refused : (o : OpenTables) (f : Files) (s : State) (pid node : ℕ) (old new name : List ℕ) (from : Option Last) (last : Last) (error : Errno) → joined o f ≡ s
    → IsFound s old (walk s pid old) node from → is_directory s node ≡ false → IsMissing s new (walk s pid new) last → last.slash ≡ false
    → name ≡ slice_range new last.from (last.from + last.len)
    → ((path : Path) → get f.names path ≡ Some last.directory.0 → Some error ≡ link_error f node (name ∷ path))
    → act_link s pid old new ≡ failed error s
link_refused o f s pid node old new name from last error view found file m slash is errors =
    let here = missing_in o f s pid new last view m in
    let same : here.path ≡ name ∷ here.named.above = here.named.spelled ∙ ap (λ (n : List ℕ). n ∷ here.named.above) (sym is) in
    let free : is_some (get f.names (name ∷ here.named.above)) ≡ false = ap (λ (p : Path). is_some (get f.names p)) (sym same) ∙ ap (λ (x : Option ℕ). is_some x) here.free in
    let stopped = refused (is_directory (joined o f) node) (is_some (get f.names (name ∷ here.named.above))) (nat_le link_limit (name_count f.names node)) (joined o f)
    (answered 0 (record (joined o f) { names = insert f.names m.path node })) error (ap (λ (t : State). is_directory t node) view ∙ file) free (errors here.named.above here.named.stands) in
    link_file s pid node old new from found file
    ∙ ap (λ (w : Way). link_by s node w) m.walks
    ∙ ap (λ b. fail_if b Enoent s (fail_if (nat_le link_limit (name_count s.names node)) Emlink s (answered 0 (record s { names = insert s.names m.path node })))) slash
    ∙ subst (λ (t : State). fail_if (nat_le link_limit (name_count t.names node)) Emlink t (answered 0 (record t { names = insert t.names m.path node })) ≡ failed error t) view stopped
