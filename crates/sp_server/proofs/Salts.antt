-- The salts of frames, one after the other.
use Rattle.std.proofs.Common.{◌≡◌, ℕ, ◌+◌, ◌≤◌, Bool, true, false, cond, List, [], ◌∷◌, ◌++◌, length, count_by, refl, sym, ap, subst, ◌∙◌, append_assoc, length-append, arith}
use Rattle.std.proofs.lemmas.List.Sums.{sum_by-append}
use Rattle.sp_frames.specs.declared.frame.Frame.{Frame}
use Rattle.sp_server.specs.Serving.{Server}
use Rattle.sp_server.specs.Stdio.{takes_salt, AreSaltsOf, salt_for, salts_behind, Answers}

-- how many of some frames take a salt
abbrev pub takers : List Frame → ℕ
takers frames = count_by (λ f. takes_salt f.body) frames

-- ---- a frame's salt

left_alone : (takes : Bool) (y : ℕ) (ys : List ℕ) → cond takes 1 0 ≤ 0 → (cond takes y 0 ≡ 0) × (cond takes ys (y ∷ ys) ≡ y ∷ ys)
left_alone true y ys few = absurd (omega arith)
left_alone false y ys few = (refl, refl)

left_more : (takes : Bool) (x : ℕ) (xs more : List ℕ) → cond takes (xs ++ more) (x ∷ (xs ++ more)) ≡ cond takes xs (x ∷ xs) ++ more
left_more true x xs more = refl
left_more false x xs more = refl

-- a frame whose salt is there takes none of those behind
pub salt_front : (f : Frame) (salts more : List ℕ) → cond (takes_salt f.body) 1 0 ≤ length salts → (salt_for f (salts ++ more) ≡ salt_for f salts) × (salts_behind f (salts ++ more) ≡ salts_behind f salts ++ more)
salt_front f [] [] enough = (refl, refl)
salt_front f [] (y ∷ ys) enough = left_alone (takes_salt f.body) y ys enough
salt_front f (x ∷ xs) more enough = (refl, left_more (takes_salt f.body) x xs more)

left_length : (takes : Bool) (x : ℕ) (xs : List ℕ) (n : ℕ) → length (x ∷ xs) ≡ cond takes 1 0 + n → length (cond takes xs (x ∷ xs)) ≡ n
left_length true x xs n is = omega arith
left_length false x xs n is = omega arith

-- the other frames have the others
pub behind_length : (f : Frame) (salts : List ℕ) (n : ℕ) → length salts ≡ cond (takes_salt f.body) 1 0 + n → length (salts_behind f salts) ≡ n
behind_length f [] n is = omega arith
behind_length f (x ∷ xs) n is = left_length (takes_salt f.body) x xs n is

-- ---- the salts of frames

pub takers-append : (frames later : List Frame) → takers (frames ++ later) ≡ takers frames + takers later
takers-append frames later = sum_by-append (λ (f : Frame). cond (takes_salt f.body) 1 0) frames later

-- a first frame takes a salt or none, and the others take theirs
pub takers-first : (f : Frame) (frames : List Frame) → takers (f ∷ frames) ≡ cond (takes_salt f.body) 1 0 + takers frames
takers-first f frames =
    let one : takers (f ∷ []) ≡ cond (takes_salt f.body) 1 0 = (let sum : 0 + cond (takes_salt f.body) 1 0 ≡ cond (takes_salt f.body) 1 0 = omega arith in sum) in
    takers-append (f ∷ []) frames ∙ ap (λ (n : ℕ). n + takers frames) one

pub salts_append : (frames later : List Frame) (salts more : List ℕ) → AreSaltsOf frames salts → AreSaltsOf later more → AreSaltsOf (frames ++ later) (salts ++ more)
salts_append frames later salts more first second = rw (length-append salts more, takers-append frames later) (omega arith)

-- a first frame's salt is one of those that the frames take
pub salt_within : (f : Frame) (later : List Frame) (salts : List ℕ) → AreSaltsOf (f ∷ []) salts → length salts ≤ takers (f ∷ later)
salt_within f later salts is =
    let all : takers (f ∷ later) ≡ takers (f ∷ []) + takers later = takers-append (f ∷ []) later in
    omega arith

-- what is written for frames, and then for others
pub answers_then : (frames later : List Frame) (s t u : Server) (salts more text rest : List ℕ) → AreSaltsOf frames salts → Answers s frames salts text t → Answers t later more rest u → Answers s (frames ++ later) (salts ++ more) (text ++ rest) u
answers_then [] later s t u [] more text rest enough a b = subst (λ (l : List ℕ). Answers s later more (l ++ rest) u) (sym a.0) (subst (λ (v : Server). Answers v later more rest u) a.1 b)
answers_then [] later s t u (x ∷ salts) more text rest enough a b = absurd (omega arith)
answers_then (f ∷ frames) later s t u salts more text rest enough a b =
    let each : length salts ≡ cond (takes_salt f.body) 1 0 + takers frames = enough ∙ takers-first f frames in
    let front = salt_front f salts more (omega arith) in
    let behind = salts_behind f salts in
    let others = answers_then frames later a.0 t u behind more a.2 rest (behind_length f salts (takers frames) each) a.4 b in (
      a.0,
      a.1,
      a.2 ++ rest,
      rw (front.0) a.3,
      rw (front.1) others,
      ap (λ (l : List ℕ). l ++ rest) a.5 ∙ append_assoc a.1 a.2 rest,
    )
