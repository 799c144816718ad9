-- What is kept of clients while one of them changes.
use Rattle.std.proofs.Common.{◌≡◌, inl, inr, ℕ, suc, ◌<◌, ◌≤◌, nat_lt, ◌++◌, true, false, List, [], ◌∷◌, length, slice_get, slice_set, Some, refl, sym, ap, subst, ◌∙◌, arith}
use Rattle.std.proofs.lemmas.Bool.Decides.{nat_tests}
use Rattle.world_laws.proofs.PushLemmas.{got_split, got_old, got_new, long-set, long-added}
use Rattle.sync_world.specs.Keeping.{AreKept}

module _ {C K : Type 0} (Is : C → K → Type 0) where
  -- one joins
  pub kept_added : (clients : List C) (kept : List K) (client : C) (one : K) → AreKept Is clients kept → Is client one → AreKept Is (clients ++ client ∷ []) (kept ++ one ∷ [])
  kept_added clients kept client one all new = record {
    long = long-added kept one ∙ ap suc all.long ∙ sym (long-added clients client);
    each = λ n d k at there. elim (nat_lt n (length clients)) as (λ b. nat_lt n (length clients) ≡ b → Is d k) [
      | true ↦ λ less.
          let within : n < length clients = grind (arith, nat_tests) in
          let also : n < length kept = let long = all.long in omega arith in
          all.each n d k (got_old clients n client d within at) (got_old kept n one k also there)
      | false ↦ λ more.
          let behind : length clients ≤ n = grind (arith, nat_tests) in
          let also : length kept ≤ n = let long = all.long in omega arith in
          subst (λ x. Is x k) (sym (got_new clients n client d behind at)) (subst (λ y. Is client y) (sym (got_new kept n one k also there)) new)
    ] refl;
  }

  -- one changes
  pub kept_set : (clients : List C) (kept : List K) (n : ℕ) (client : C) (one : K) → AreKept Is clients kept → Is client one → AreKept Is (slice_set clients n client) (slice_set kept n one)
  kept_set clients kept n client one all new = record {
    long = long-set kept n one ∙ all.long ∙ sym (long-set clients n client);
    each = λ m d k at there. elim (got_split clients n m client d at) [
      | inl it ↦ elim (got_split kept n m one k there) [
        | inl too ↦ subst (λ x. Is x k) (sym it.1) (subst (λ y. Is client y) (sym too.1) new)
        | inr other ↦ absurd (other.0 it.0)
      ]
      | inr away ↦ elim (got_split kept n m one k there) [
        | inl it ↦ absurd (away.0 it.0)
        | inr other ↦ all.each m d k away.1 other.1
      ]
    ];
  }

-- what is kept of each is still right where what is asked of it is another
pub kept_still : {C K : Type 0} (Is Be : C → K → Type 0) (clients : List C) (kept : List K) → ((n : ℕ) (client : C) (one : K) → slice_get clients n ≡ Some client → Is client one → Be client one)
    → AreKept Is clients kept → AreKept Be clients kept
kept_still Is Be clients kept each all = record { long = all.long; each = λ n d k at there. each n d k at (all.each n d k at there) }
