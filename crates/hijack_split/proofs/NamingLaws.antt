-- What a view names after a change.
use Rattle.std.proofs.Common.{◌≡◌, ◌≢◌, ℕ, zero, suc, ◌<◌, ◌≤◌, ◌-◌, Bool, true, false, nat_lt, cond, List, [], ◌∷◌, length, ◌⊎◌, inl, inr, Option, None, Some, refl, sym, ap, ◌∙◌, subst, arith}
use Rattle.std.specs.Prelude.{◌==◌, ◌||◌, map, option_map, slice_set}
use Rattle.std.proofs.lemmas.Bool.Decides.{nat_tests}
use Rattle.std.proofs.lemmas.List.{get_or-set_same, get_or-set_other}
use Rattle.sp_base.specs.Table.{at}
use Rattle.hijack_split.specs.declared.change.Alias.{Alias}
use Rattle.hijack_split.specs.declared.change.Change.TheVariants.{Sits, Marks, Drops, Sets}
use Rattle.hijack_split.specs.declared.change.Named.TheVariants.{Rump, Host, Nothing}
use Rattle.hijack_rules.specs.declared.names.SideName.{SideName}
use Rattle.hijack_split.specs.View.{Naming, after_exec, changed, holds, is_alias_of, kept_by_exec, marked, named, named_by, unaliased}
use Rattle.hijack_split.specs.Laws.{IsDistinct}

same_eq : (n : ℕ) → (n == n) ≡ true
same_eq n = grind (arith, nat_tests)

-- an alias of the table holds its rump descriptor
pub held : (aliases : List (Option Alias)) (g : ℕ) (a : Alias) → at aliases g ≡ Some a → holds aliases a.rump ≡ true
held [] g a e = absurd (cc)
held (o ∷ aliases) zero a e = subst (λ x. holds (x ∷ aliases) a.rump ≡ true) (sym e) (ap (λ b. b || holds aliases a.rump) (same_eq a.rump))
held (o ∷ aliases) (suc g) a e = later (is_alias_of a.rump o) (held aliases g a e)
  where
    later : (b : Bool) → holds aliases a.rump ≡ true → (b || holds aliases a.rump) ≡ true
    later true h = refl
    later false h = h

-- what names a rump descriptor
by_offset : (v : Naming) (g r : ℕ) → unaliased v g ≡ Rump r → (v.offset ≤ g) × ((g - v.offset) ≡ r) × (holds v.aliases r ≡ false)
by_offset v g r e = first (nat_lt g v.offset) refl e
  where
    second : (b : Bool) → holds v.aliases (g - v.offset) ≡ b → v.offset ≤ g → cond b Nothing (Rump (g - v.offset)) ≡ Rump r → (v.offset ≤ g) × ((g - v.offset) ≡ r) × (holds v.aliases r ≡ false)
    second true h o e = absurd (cc)
    second false h o e = let same : (g - v.offset) ≡ r = cc in (o, same, subst (λ x. holds v.aliases x ≡ false) same h)

    first : (b : Bool) → nat_lt g v.offset ≡ b → cond b (Host g) (cond (holds v.aliases (g - v.offset)) Nothing (Rump (g - v.offset))) ≡ Rump r → (v.offset ≤ g) × ((g - v.offset) ≡ r) × (holds v.aliases r ≡ false)
    first true h e = absurd (cc)
    first false h e = second (holds v.aliases (g - v.offset)) refl (grind (arith, nat_tests)) e

pub distinct_names : (v : Naming) → IsDistinct v → (g h r : ℕ) → named v g ≡ Rump r → named v h ≡ Rump r → g ≡ h
unfolding named
distinct_names v d g h r e f = both (at v.aliases g) refl (at v.aliases h) refl e f
  where
    both : (x : Option Alias) → at v.aliases g ≡ x → (y : Option Alias) → at v.aliases h ≡ y → named_by v g x ≡ Rump r → named_by v h y ≡ Rump r → g ≡ h
    both (Some a) x (Some b) y e f = d g h a b x y (cc)
    both (Some a) x None y e f =
        let same : a.rump ≡ r = cc in
        absurd (let no = (by_offset v h r f).2 in let yes = subst (λ z. holds v.aliases z ≡ true) same (held v.aliases g a x) in cc)
    both None x (Some b) y e f =
        let same : b.rump ≡ r = cc in
        absurd (let no = (by_offset v g r e).2 in let yes = subst (λ z. holds v.aliases z ≡ true) same (held v.aliases h b y) in cc)
    both None x None y e f =
        let p = by_offset v g r e in
        let q = by_offset v h r f in
        let p0 = p.0 in let p1 = p.1 in let q0 = q.0 in let q1 = q.1 in
        omega (arith, p0, p1, q0, q1)

-- an alias that is there after one was dropped was there before
still : (t : List (Option Alias)) (g h : ℕ) (a : Alias) → at (slice_set t g None) h ≡ Some a → at t h ≡ Some a
still [] g h a e = e
still (o ∷ t) zero zero a e = absurd (cc)
still (o ∷ t) zero (suc h) a e = e
still (o ∷ t) (suc g) zero a e = e
still (o ∷ t) (suc g) (suc h) a e = still t g h a e

pub drop_keeps_distinct : (v : Naming) (g : ℕ) → IsDistinct v → IsDistinct (changed v (Drops g))
drop_keeps_distinct v g d = λ x y a b e f same. d x y a b (still v.aliases g x a e) (still v.aliases g y b f) same

-- an alias that is there after one was set is the new one, or was there before
put_or_still : (t : List (Option Alias)) (g : ℕ) (new : Alias) (h : ℕ) (a : Alias) → at (slice_set t g (Some new)) h ≡ Some a → ((h ≡ g) × (a ≡ new)) ⊎ (at t h ≡ Some a)
put_or_still [] g new h a e = inr e
put_or_still (o ∷ t) zero new zero a e = inl (refl, cc)
put_or_still (o ∷ t) zero new (suc h) a e = inr e
put_or_still (o ∷ t) (suc g) new zero a e = inr e
put_or_still (o ∷ t) (suc g) new (suc h) a e = onward (put_or_still t g new h a e)
  where
    onward : ((h ≡ g) × (a ≡ new)) ⊎ (at t h ≡ Some a) → ((suc h ≡ suc g) × (a ≡ new)) ⊎ (at t h ≡ Some a)
    onward (inl p) = inl (ap suc p.0, p.1)
    onward (inr p) = inr p

pub set_keeps_distinct : (v : Naming) (g r : ℕ) → IsDistinct v → holds v.aliases r ≡ false → IsDistinct (changed v (Sets g r))
set_keeps_distinct v g r d free = λ x y a b e f same. both x y a b same (put_or_still v.aliases g fresh x a e) (put_or_still v.aliases g fresh y b f)
  where
    fresh : Alias
    fresh = record { rump = r; cloexec = false }

    old : (x : ℕ) (a : Alias) → at v.aliases x ≡ Some a → a.rump ≡ r → ⊥
    old x a e same = let yes = subst (λ z. holds v.aliases z ≡ true) same (held v.aliases x a e) in let no = free in absurd (cc)

    both : (x y : ℕ) (a b : Alias) → a.rump ≡ b.rump → ((x ≡ g) × (a ≡ fresh)) ⊎ (at v.aliases x ≡ Some a) → ((y ≡ g) × (b ≡ fresh)) ⊎ (at v.aliases y ≡ Some b) → x ≡ y
    both x y a b same (inl p) (inl q) = p.0 ∙ sym q.0
    both x y a b same (inl p) (inr q) = absurd (old y b q (sym same ∙ ap (λ z. z.rump) p.1))
    both x y a b same (inr p) (inl q) = absurd (old x a p (same ∙ ap (λ z. z.rump) q.1))
    both x y a b same (inr p) (inr q) = d x y a b p q same

-- below the offset a descriptor without an alias is the host's
pub low : (v : Naming) (g : ℕ) → g < v.offset → unaliased v g ≡ Host g
low v g small =
    let e : nat_lt g v.offset ≡ true = grind (arith, nat_tests) in
    ap (λ b. cond b (Host g) (cond (holds v.aliases (g - v.offset)) Nothing (Rump (g - v.offset)))) e

same_low : (v w : Naming) (g : ℕ) → g < v.offset → g < w.offset → (o : Option Alias) → named_by w g o ≡ named_by v g o
same_low v w g p q (Some a) = refl
same_low v w g p q None = low w g q ∙ sym (low v g p)

pub low_stays : (v : Naming) (h g : ℕ) (o : Option Alias) → g < v.offset → g ≢ h → named (record v { aliases = slice_set v.aliases h o }) g ≡ named v g
unfolding named
low_stays v h g o small other =
    let w : Naming = record v { aliases = slice_set v.aliases h o } in
    ap (named_by w g) (get_or-set_other v.aliases h g o None other) ∙ same_low v w g small small (at v.aliases g)

nothing_there : (t : List (Option Alias)) (h : ℕ) → at (slice_set t h None) h ≡ None
nothing_there [] h = refl
nothing_there (o ∷ t) zero = refl
nothing_there (o ∷ t) (suc h) = nothing_there t h

pub dropped_is_host : (v : Naming) (h : ℕ) → h < v.offset → named (changed v (Drops h)) h ≡ Host h
unfolding named
dropped_is_host v h small = let w : Naming = changed v (Drops h) in ap (named_by w h) (nothing_there v.aliases h) ∙ low w h small

pub set_is_rump : (v : Naming) (h r : ℕ) → h < length v.aliases → named (changed v (Sets h r)) h ≡ Rump r
unfolding named
set_is_rump v h r within = ap (named_by (changed v (Sets h r)) h) (get_or-set_same v.aliases h (Some (record { rump = r; cloexec = false })) None within)

pub side_keeps_names : (v : Naming) (s : SideName) (g : ℕ) → named (changed v (Sits s)) g ≡ named v g
unfolding named
side_keeps_names v s g = same (at v.aliases g)
  where
    same : (o : Option Alias) → named_by (changed v (Sits s)) g o ≡ named_by v g o
    same (Some a) = refl
    same None = refl

-- a mark leaves what an alias holds
rump_at : Option Alias → Option ℕ
rump_at None = None
rump_at (Some a) = Some a.rump

mark_keeps_rump : (t : List (Option Alias)) (h : ℕ) (on : Bool) (g : ℕ) → rump_at (at (slice_set t h (option_map (marked on) (at t h))) g) ≡ rump_at (at t g)
unfolding rump_at
mark_keeps_rump [] h on g = refl
mark_keeps_rump (None ∷ t) zero on zero = refl
mark_keeps_rump (Some a ∷ t) zero on zero = refl
mark_keeps_rump (o ∷ t) zero on (suc g) = refl
mark_keeps_rump (o ∷ t) (suc h) on zero = refl
mark_keeps_rump (o ∷ t) (suc h) on (suc g) = mark_keeps_rump t h on g

mark_keeps_held : (t : List (Option Alias)) (h : ℕ) (on : Bool) (r : ℕ) → holds (slice_set t h (option_map (marked on) (at t h))) r ≡ holds t r
mark_keeps_held [] h on r = refl
mark_keeps_held (None ∷ t) zero on r = refl
mark_keeps_held (Some a ∷ t) zero on r = refl
mark_keeps_held (o ∷ t) (suc h) on r = ap (λ b. is_alias_of r o || b) (mark_keeps_held t h on r)

pub mark_keeps_names : (v : Naming) (h : ℕ) (on : Bool) (g : ℕ) → named (changed v (Marks h on)) g ≡ named v g
unfolding named rump_at
mark_keeps_names v h on g = both (at (changed v (Marks h on)).aliases g) (at v.aliases g) (mark_keeps_rump v.aliases h on g)
  where
    both : (x y : Option Alias) → rump_at x ≡ rump_at y → named_by (changed v (Marks h on)) g x ≡ named_by v g y
    both (Some a) (Some b) e = ap Rump (cc)
    both (Some a) None e = absurd (cc)
    both None (Some b) e = absurd (cc)
    both None None e = ap (λ b. cond (nat_lt g v.offset) (Host g) (cond b Nothing (Rump (g - v.offset)))) (mark_keeps_held v.aliases h on (g - v.offset))

-- what stands at a place behind an exec
at_exec : (t : List (Option Alias)) (g : ℕ) → at (map kept_by_exec t) g ≡ kept_by_exec (at t g)
at_exec [] g = refl
at_exec (o ∷ t) zero = refl
at_exec (o ∷ t) (suc g) = at_exec t g

-- what an exec leaves was there before, without the flag
kept_is : (o : Option Alias) (a : Alias) → kept_by_exec o ≡ Some a → o ≡ Some a
kept_is None a e = absurd (cc)
kept_is (Some b) a e = by b.cloexec e
  where
    by : (flag : Bool) → cond flag None (Some b) ≡ Some a → Some b ≡ Some a
    by true e = absurd (cc)
    by false e = e

pub exec_keeps_distinct : (v : Naming) → IsDistinct v → IsDistinct (after_exec v)
exec_keeps_distinct v d = λ g h a b e f same. d g h a b (before g a e) (before h b f) same
  where
    before : (g : ℕ) (a : Alias) → at (map kept_by_exec v.aliases) g ≡ Some a → at v.aliases g ≡ Some a
    before g a e = kept_is (at v.aliases g) a (sym (at_exec v.aliases g) ∙ e)

pub exec_takes : (v : Naming) (g : ℕ) (a : Alias) → at v.aliases g ≡ Some a → a.cloexec ≡ true → g < v.offset → named (after_exec v) g ≡ Host g
unfolding named
exec_takes v g a there flag small =
    ap (named_by (after_exec v) g) (at_exec v.aliases g ∙ (ap kept_by_exec there ∙ ap (λ b. cond b None (Some a)) flag))
    ∙ low (after_exec v) g small

pub exec_keeps : (v : Naming) (g : ℕ) (a : Alias) → at v.aliases g ≡ Some a → a.cloexec ≡ false → named (after_exec v) g ≡ Rump a.rump
unfolding named
exec_keeps v g a there flag =
    ap (named_by (after_exec v) g) (at_exec v.aliases g ∙ (ap kept_by_exec there ∙ ap (λ b. cond b None (Some a)) flag))

pub exec_leaves : (v : Naming) (g : ℕ) → at v.aliases g ≡ None → g < v.offset → named (after_exec v) g ≡ named v g
unfolding named
exec_leaves v g none small =
    ap (named_by (after_exec v) g) (at_exec v.aliases g ∙ ap kept_by_exec none) ∙ (low (after_exec v) g small
    ∙ sym (ap (named_by v g) none ∙ low v g small))
