-- The list of what a function gives of each entry, when one entry changes.
use Rattle.std.proofs.Common.{◌≡◌, ℕ, ◌+◌, ◌<◌, List, [], ◌∷◌, ◌++◌, refl, length-append, length, get_or, set, Option, ap, sym, ◌∙◌, arith, ⊎_elim}
use Rattle.std.proofs.lemmas.List.{get_or-set_same, get_or-set_other, ext_get_or, length-set}
use Rattle.std.proofs.lemmas.List.FromFn.{length-map-range_with_len, get_or-map-range_with_len, map-range_with_len_more}
use Rattle.std.proofs.lemmas.Bool.{cases_eq}
use Rattle.kern_nodes.specs.declared.inode.Inode.{Inode}
use Rattle.kern_nodes.specs.Inode.{Inodes, entry, listed, Changes}

-- the list is as long as there are numbers
pub length-listed : {X : Type 0} (f : Option Inode → X) (inodes : Inodes) (end : ℕ) → length (listed f inodes end) ≡ end
unfolding listed
length-listed f inodes end = length-map-range_with_len (λ number. f (entry inodes number)) 0 end

-- what the list has at a number below its end
pub at_listed : {X : Type 0} (f : Option Inode → X) (inodes : Inodes) (end number : ℕ) (d : X) → number < end → get_or (listed f inodes end) number d ≡ f (entry inodes number)
unfolding listed
at_listed f inodes end number d below = get_or-map-range_with_len (λ n. f (entry inodes n)) 0 end number number d below (omega arith)

-- one number more
pub listed_more : {X : Type 0} (f : Option Inode → X) (inodes : Inodes) (end : ℕ) → listed f inodes (end + 1) ≡ listed f inodes end ++ f (entry inodes end) ∷ []
unfolding listed
listed_more f inodes end = map-range_with_len_more (λ n. f (entry inodes n)) 0 end end (omega arith)

-- the list is the same where the function gives the same of each entry
pub listed_same : {X : Type 0} (f : Option Inode → X) (old new : Inodes) (end : ℕ) (d : X) → ((number : ℕ) → number < end → f (entry new number) ≡ f (entry old number)) → listed f new end ≡ listed f old end
listed_same f old new end d same =
    ext_get_or d (listed f new end) (listed f old end) (length-listed f new end ∙ sym (length-listed f old end))
    (λ i below. let within : i < end = omega (arith, length-listed f new end) in
    at_listed f new end i d within ∙ same i within ∙ sym (at_listed f old end i d within))

-- the list with another entry is set there
pub listed_set : {X : Type 0} (f : Option Inode → X) (old new : Inodes) (end number : ℕ) (inode : Option Inode) (d : X) → number < end → Changes old new number inode → listed f new end ≡ set (listed f old end) number (f inode)
listed_set f old new end number inode d below changes =
    ext_get_or d (listed f new end) (set (listed f old end) number (f inode))
    (length-listed f new end ∙ sym (length-listed f old end) ∙ sym (length-set (listed f old end) number (f inode)))
    (λ i before. let within : i < end = omega (arith, length-listed f new end) in
    let inside : number < length (listed f old end) = omega (arith, length-listed f old end) in
    at_listed f new end i d within ∙
    ⊎_elim
    (λ same. ap (λ n. f (entry new n)) same ∙ ap f changes.here
    ∙ sym (get_or-set_same (listed f old end) number (f inode) d inside)
    ∙ ap (λ n. get_or (set (listed f old end) number (f inode)) n d) (sym same))
    (λ apart. ap f (changes.others i apart) ∙ sym (at_listed f old end i d within)
    ∙ sym (get_or-set_other (listed f old end) number i (f inode) d apart))
    (cases_eq i number))

-- the list stays where the function gives the same of the other entry
pub listed_kept : {X : Type 0} (f : Option Inode → X) (old new : Inodes) (end number : ℕ) (inode : Option Inode) (d : X) → Changes old new number inode → f inode ≡ f (entry old number) → listed f new end ≡ listed f old end
listed_kept f old new end number inode d changes same =
    listed_same f old new end d (λ n below.
    ⊎_elim
    (λ here. ap (λ m. f (entry new m)) here ∙ ap f changes.here ∙ same ∙ ap (λ m. f (entry old m)) (sym here))
    (λ apart. ap f (changes.others n apart))
    (cases_eq n number))

-- lists with an element more each that are the same have the same elements
pub one_less : {X : Type 0} (xs ys : List X) (x y : X) → xs ++ x ∷ [] ≡ ys ++ y ∷ [] → (xs ≡ ys) × (x ≡ y)
one_less [] [] x y e = (refl, cc)
one_less [] (b ∷ ys) x y e = absurd (omega (arith, ap length e, length-append ys (y ∷ [])))
one_less (a ∷ xs) [] x y e = absurd (omega (arith, ap length e, length-append xs (x ∷ [])))
one_less (a ∷ xs) (b ∷ ys) x y e =
    let rest : xs ++ x ∷ [] ≡ ys ++ y ∷ [] = cc in
    let head : a ≡ b = cc in
    let less = one_less xs ys x y rest in
    ((λ i. head i ∷ less.0 i), less.1)
