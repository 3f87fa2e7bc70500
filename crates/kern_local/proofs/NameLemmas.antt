-- Names that come and go.
use Rattle.std.proofs.Common.{◌≡◌, ◌≢◌, ◌⊎◌, inl, inr, ℕ, Bool, true, false, cond, Option, None, Some, refl, sym, ap, subst, ◌∙◌, arith}
use Rattle.std.specs.Prelude.{not, ◌==◌}
use Rattle.std.specs.Ordering.{nat_cmp}
use Rattle.std.specs.Cmp.{nat_cmp_total}
use Rattle.std.specs.FinMap.{FinMap, get, insert, remove, retain_keys, get-retain_keys, get-empty, empty, same_map, nat_cmp-IsAntisymmetric}
use Rattle.std.proofs.lemmas.Bool.{eqb-true}
use Rattle.tables.proofs.Maps.{get_put, get_put_other, get_gone, get_gone_other, same_or_not}
use Rattle.kern_local.specs.Names.{Named, is_socket, without_name, with_name, AreKnown}

same : (m n : Named) → ((q : ℕ) → get m q ≡ get n q) → m ≡ n
same m n h = same_map nat_cmp_total nat_cmp-IsAntisymmetric m n h

one : (a b : ℕ) → Some a ≡ Some b → a ≡ b
one a b e = cc

turned : (b : Bool) (x y : Option ℕ) → cond (not b) x y ≡ cond b y x
turned true x y = refl
turned false x y = refl

socket_is : (o : Option ℕ) (i : ℕ) → is_socket o i ≡ true → o ≡ Some i
socket_is None i e = absurd (let k : false ≡ true = e in cc)
socket_is (Some j) i e = ap Some (eqb-true j i e)

-- what a node names without the name of a socket
get_without : (m : Named) (i q : ℕ) → get (without_name m i) q ≡ cond (is_socket (get m q) i) None (get m q)
get_without m i q =
    get-retain_keys m (λ n. not (is_socket (get m n) i)) q (λ x e. ap (λ n. not (is_socket (get m n) i)) (sym (nat_cmp-IsAntisymmetric q x e)))
    ∙ turned (is_socket (get m q) i) (get m q) None

kept : (o : Option ℕ) (i j : ℕ) → cond (is_socket o i) None o ≡ Some j → (o ≡ Some j) × (j ≢ i)
kept None i j e = absurd (let k : None ≡ Some j = e in cc)
kept (Some k) i j e = by (k == i) refl e
  where
    by : (b : Bool) → (k == i) ≡ b → cond b None (Some k) ≡ Some j → (Some k ≡ Some j) × (j ≢ i)
    by true t e = absurd (let k : None ≡ Some j = e in cc)
    by false t e = (e, λ s. grind (arith, t, one k j e, s))

-- a name that stays is another socket's
stays : (m : Named) (i q j : ℕ) → get (without_name m i) q ≡ Some j → (get m q ≡ Some j) × (j ≢ i)
stays m i q j e = kept (get m q) i j (sym (get_without m i q) ∙ e)

-- a node that isn't the name of a socket keeps what it names
unless : (m : Named) (i q : ℕ) → (get m q ≡ Some i → ⊥) → get (without_name m i) q ≡ get m q
unless m i q h = get_without m i q ∙ by (is_socket (get m q) i) refl
  where
    by : (b : Bool) → is_socket (get m q) i ≡ b → cond b None (get m q) ≡ get m q
    by true t = absurd (h (socket_is (get m q) i t))
    by false t = refl

-- a socket that isn't known has no name
pub unnamed : (m nodes : Named) (i : ℕ) → AreKnown m nodes → get nodes i ≡ None → m ≡ without_name m i
unnamed m nodes i known none = same m (without_name m i) (λ q. sym (unless m i q (λ e. let k : Some q ≡ None = sym (known.node q i e) ∙ none in absurd (cc))))

-- the name of a socket that is known by a node is taken away there
pub taken : (m nodes : Named) (i n : ℕ) → AreKnown m nodes → get nodes i ≡ Some n → cond (is_socket (get m n) i) (remove m n) m ≡ without_name m i
taken m nodes i n known at_n = same _ (without_name m i) (λ q. elim (same_or_not q n) [
  | inl e ↦ subst (λ k. get (cond (is_socket (get m n) i) (remove m n) m) k ≡ get (without_name m i) k) (sym e) (here (is_socket (get m n) i) refl)
  | inr ne ↦ there (is_socket (get m n) i) q ne ∙ sym (unless m i q (λ e. ne (one q n (sym (known.node q i e) ∙ at_n))))
])
  where
    here : (b : Bool) → is_socket (get m n) i ≡ b → get (cond b (remove m n) m) n ≡ get (without_name m i) n
    here true t = get_gone m n ∙ sym (get_without m i n ∙ ap (λ b. cond b None (get m n)) t)
    here false t = sym (get_without m i n ∙ ap (λ b. cond b None (get m n)) t)

    there : (b : Bool) (q : ℕ) → q ≢ n → get (cond b (remove m n) m) q ≡ get m q
    there true q ne = get_gone_other m n q ne
    there false q ne = refl

-- names that have a node for a socket, and else what stays without the one that it had
pub named : (m new : Named) (n i : ℕ) → get new n ≡ Some i → ((q : ℕ) → q ≢ n → get new q ≡ get (without_name m i) q) → new ≡ with_name m n i
named m new n i here others = same new (with_name m n i) (λ q. elim (same_or_not q n) [
  | inl e ↦ subst (λ k. get new k ≡ get (with_name m n i) k) (sym e) (here ∙ sym (get_put (without_name m i) n i))
  | inr ne ↦ others q ne ∙ sym (get_put_other (without_name m i) n i q ne)
])

-- a socket without a name gets one
pub named_first : (m nodes : Named) (n i : ℕ) → AreKnown m nodes → get nodes i ≡ None → insert m n i ≡ with_name m n i
named_first m nodes n i known none = ap (λ (x : Named). insert x n i) (unnamed m nodes i known none)

-- a socket gets the name by which it was known
pub named_again : (m nodes : Named) (n i : ℕ) → AreKnown m nodes → get nodes i ≡ Some n → insert m n i ≡ with_name m n i
named_again m nodes n i known at_n =
    named m (insert m n i) n i (get_put m n i) (λ q ne. get_put_other m n i q ne ∙ sym (unless m i q (λ e. ne (one q n (sym (known.node q i e) ∙ at_n)))))

-- a socket gets another name than that by which it was known
pub named_else : (m nodes : Named) (old n i : ℕ) → AreKnown m nodes → get nodes i ≡ Some old → old ≢ n
    → cond (is_socket (get (insert m n i) old) i) (remove (insert m n i) old) (insert m n i) ≡ with_name m n i
named_else m nodes old n i known at_old ne = named m _ n i (here (is_socket (get (insert m n i) old) i)) (λ q nq. others q nq)
  where
    here : (b : Bool) → get (cond b (remove (insert m n i) old) (insert m n i)) n ≡ Some i
    here true = get_gone_other (insert m n i) old n (λ e. ne (sym e)) ∙ get_put m n i
    here false = get_put m n i

    at_other : (b : Bool) (q : ℕ) → q ≢ n → q ≢ old → get (cond b (remove (insert m n i) old) (insert m n i)) q ≡ get m q
    at_other true q nq other = get_gone_other (insert m n i) old q other ∙ get_put_other m n i q nq
    at_other false q nq other = get_put_other m n i q nq

    at_the_old : (b : Bool) → is_socket (get (insert m n i) old) i ≡ b → get (cond b (remove (insert m n i) old) (insert m n i)) old ≡ get (without_name m i) old
    at_the_old true t = get_gone (insert m n i) old ∙ sym (get_without m i old ∙ ap (λ b. cond b None (get m old)) (ap (λ o. is_socket o i) (sym (get_put_other m n i old ne)) ∙ t))
    at_the_old false t =
        get_put_other m n i old ne
        ∙ sym (get_without m i old ∙ ap (λ b. cond b None (get m old)) (ap (λ o. is_socket o i) (sym (get_put_other m n i old ne)) ∙ t))

    others : (q : ℕ) → q ≢ n → get (cond (is_socket (get (insert m n i) old) i) (remove (insert m n i) old) (insert m n i)) q ≡ get (without_name m i) q
    others q nq = elim (same_or_not q old) [
      | inl e ↦ subst (λ k. get (cond (is_socket (get (insert m n i) old) i) (remove (insert m n i) old) (insert m n i)) k ≡ get (without_name m i) k) (sym e) (at_the_old (is_socket (get (insert m n i) old) i) refl)
      | inr other ↦ at_other (is_socket (get (insert m n i) old) i) q nq other ∙ sym (unless m i q (λ e. other (one q old (sym (known.node q i e) ∙ at_old))))
    ]

-- ---- what is known

pub known_none : (m nodes : Named) → m ≡ empty → AreKnown m nodes
known_none m nodes none = subst (λ (x : Named). AreKnown x nodes) (sym none) record { node = λ n i e. let k : None ≡ Some i = sym (get-empty nat_cmp n) ∙ e in absurd (cc) }

-- the name of a socket goes, and is no longer known
pub known_without : (m nodes : Named) (i : ℕ) → AreKnown m nodes → AreKnown (without_name m i) (remove nodes i)
known_without m nodes i known = record { node = λ n j e. let h = stays m i n j e in get_gone_other nodes i j h.1 ∙ known.node n j h.0 }

-- the new name of a socket is known
pub known_with : (m nodes : Named) (n i : ℕ) → AreKnown m nodes → AreKnown (with_name m n i) (insert nodes i n)
known_with m nodes n i known = record {
  node = λ q j e. elim (same_or_not q n) [
    | inl same ↦
        let is : Some i ≡ Some j = sym (get_put (without_name m i) n i) ∙ subst (λ k. get (with_name m n i) k ≡ Some j) same e in
        subst (λ k. get (insert nodes i n) k ≡ Some q) (one i j is) (get_put nodes i n ∙ ap Some (sym same))
    | inr ne ↦
        let h = stays m i q j (sym (get_put_other (without_name m i) n i q ne) ∙ e) in
        get_put_other nodes i n j h.1 ∙ known.node q j h.0
  ];
}

-- a name that came to nothing isn't known
pub known_back : (m nodes : Named) (n i : ℕ) → AreKnown m nodes → get nodes i ≡ None → AreKnown m (remove (insert nodes i n) i)
known_back m nodes n i known none = record {
  node = λ q j e.
      let had = known.node q j e in
      let ne : j ≢ i = λ s. let k : Some q ≡ None = sym had ∙ (ap (λ x. get nodes x) s ∙ none) in absurd (cc) in
      get_gone_other (insert nodes i n) i j ne ∙ (get_put_other nodes i n j ne ∙ had);
}

-- the name by which a socket is known stays known
pub known_again : (m nodes : Named) (n i : ℕ) → AreKnown m nodes → get nodes i ≡ Some n → AreKnown (with_name m n i) nodes
known_again m nodes n i known at_n = record {
  node = λ q j e. elim (same_or_not q n) [
    | inl same ↦
        let is : Some i ≡ Some j = sym (get_put (without_name m i) n i) ∙ subst (λ k. get (with_name m n i) k ≡ Some j) same e in
        subst (λ k. get nodes k ≡ Some q) (one i j is) (at_n ∙ ap Some (sym same))
    | inr ne ↦ known.node q j (stays m i q j (sym (get_put_other (without_name m i) n i q ne) ∙ e)).0
  ];
}
