-- The jar before the cookie that was made last.
use Rattle.std.proofs.Common.{◌≡◌, inl, inr, ℕ, ◌+◌, Option, None, Some, IsSome, refl, sym, ap, ◌∙◌, subst, arith}
use Rattle.std.specs.Prelude.{◌-◌}
use Rattle.std.specs.Cmp.{nat_cmp_total}
use Rattle.std.specs.FinMap.{FinMap, get, insert, remove, nat_cmp-IsAntisymmetric, same_map}
use Rattle.std.specs.Ordering.{nat_cmp}
use Rattle.sp_fork.proofs.Jars.{among_less, nothing, one_less_unused}
use Rattle.sp_fork.specs.Jar.{IsJar, Jar, with_next}
use Rattle.sp_fork.specs.declared.unused.Unused.{Unused}
use Rattle.tables.proofs.Maps.{get_gone, get_gone_other, get_put, get_put_other, same_or_not}

-- no cookie has a number that wasn't given
none_next : (jar : Jar) → IsJar jar → (o : Option Unused) → get jar.unused (jar.given + 1) ≡ o → o ≡ None
none_next jar is None e = refl
none_next jar is (Some x) e = absurd (let le = is.most (jar.given + 1) (subst IsSome (sym e) refl) in omega arith)

-- what was put where nothing stood, and taken away again, changed nothing
put_gone : (m : FinMap nat_cmp Unused) (k : ℕ) (x : Unused) → get m k ≡ None → remove (insert m k x) k ≡ m
put_gone m k x none = same_map nat_cmp_total nat_cmp-IsAntisymmetric _ _ (λ q.
    elim (same_or_not q k) [
      | inl same ↦ ap (λ (j : ℕ). get (remove (insert m k x) k) j) same ∙ get_gone (insert m k x) k ∙ sym (ap (λ (j : ℕ). get m j) same ∙ none)
      | inr other ↦ get_gone_other (insert m k x) k q other ∙ get_put_other m k x q other
    ])

jar_of : FinMap nat_cmp Unused → ℕ → Jar
jar_of m given = record { unused = m; given = given }

-- a jar without the number that was given last is a jar
pub one_unmade : (m n : FinMap nat_cmp Unused) (given : ℕ) → n ≡ remove m given → IsJar (record { unused = m; given = given })
    → IsJar (record { unused = n; given = given - 1 })
unfolding jar_of
one_unmade m n given is jar = subst (λ (x : FinMap nat_cmp Unused). IsJar (jar_of x (given - 1))) (sym is) (record {
  least = λ k there. jar.least k (among_less (jar_of m given) given k there);
  most = λ k there. elim (same_or_not k given) [
    | inl same ↦ absurd (nothing _ (ap (λ (j : ℕ). get (remove m given) j) same ∙ get_gone m given) there)
    | inr other ↦ (let le = jar.most k (among_less (jar_of m given) given k there) in omega (arith, other))
  ];
  few = (one_less_unused m (remove m given) given given refl jar).few;
})

-- the jar is what it was before the last cookie was made
pub as_before : (m n : FinMap nat_cmp Unused) (given : ℕ) (now jar : Jar) (x : Unused) → n ≡ remove m given → record { unused = m; given = given } ≡ now
    → IsJar jar → now ≡ with_next jar x → record { unused = n; given = given - 1 } ≡ jar
unfolding jar_of
as_before m n given now jar x is view sound made =
    let all : jar_of m given ≡ with_next jar x = view ∙ made in
    let number : given ≡ jar.given + 1 = ap (λ (j : Jar). j.given) all in
    let unused : m ≡ insert jar.unused (jar.given + 1) x = ap (λ (j : Jar). j.unused) all in
    let less : given - 1 ≡ jar.given = omega (arith, number) in
    let none = none_next jar sound (get jar.unused (jar.given + 1)) refl in
    let back : n ≡ jar.unused = is ∙ (ap (λ (k : ℕ). remove m k) number ∙ (ap (λ (k : FinMap nat_cmp Unused). remove k (jar.given + 1)) unused ∙ put_gone jar.unused (jar.given + 1) x none)) in
    ap (λ (k : FinMap nat_cmp Unused). jar_of k (given - 1)) back ∙ ap (jar_of jar.unused) less

-- the last cookie is there
pub last_there : (m : FinMap nat_cmp Unused) (given : ℕ) (now jar : Jar) (x : Unused) → record { unused = m; given = given } ≡ now → now ≡ with_next jar x → get m given ≡ Some x
unfolding jar_of
last_there m given now jar x view made =
    let all : jar_of m given ≡ with_next jar x = view ∙ made in
    ap (λ (j : Jar). get j.unused j.given) all ∙ get_put jar.unused (jar.given + 1) x
