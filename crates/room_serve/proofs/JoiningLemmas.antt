-- How a link names its room, after idles.
use Rattle.std.proofs.Common.{◌≡◌, ℕ, List, [], ◌∷◌, ◌++◌, Option, None, refl, sym, ap, ◌∙◌}
use Rattle.std.proofs.lemmas.List.{append_assoc, append-nil}
use Rattle.std.proofs.lemmas.List.Elements.{All-append, All-cons, All-nil}
use Rattle.std.specs.Prelude.{All}
use Rattle.link_texts.specs.declared.join.Join.{Join}
use Rattle.room_link.specs.Exchange.{Arrival, Exchange, idle, text}
use Rattle.room_serve.specs.Accounts.{IsOpen, nothing_sent}
use Rattle.room_serve.specs.Joining.{Joins, Names}
use Rattle.room_serve.specs.declared.account.Account.{Account}

-- nothing but idles came, and nothing went out
pub record Idles (old new : Exchange) : Type 0 where
  pub idles : List Arrival
  pub quiet : All (λ arrival. arrival ≡ idle) idles
  pub taken : old.left ≡ idles ++ new.left
  pub same : new.sent ≡ old.sent

pub no_idles : (x : Exchange) → Idles x x
no_idles x = record { idles = []; quiet = All-nil (λ (arrival : Arrival). arrival ≡ idle); taken = refl; same = refl }

pub one_more : (o m e : Exchange) → Idles o m → m ≡ record e { left = idle ∷ e.left } → Idles o e
one_more o m e i took =
    let is : Arrival → Type 0 = λ arrival. arrival ≡ idle in record {
      idles = i.idles ++ idle ∷ [];
      quiet = All-append is i.idles (idle ∷ []) i.quiet (All-cons is idle [] refl (All-nil is));
      taken = i.taken ∙ ap (λ x. i.idles ++ x.left) took ∙ sym (append_assoc i.idles (idle ∷ []) e.left);
      same = sym (ap (λ x. x.sent) took) ∙ i.same;
    }

-- then a text came
pub joins_by : (rooms : ℕ) (bytes : List ℕ) (join : Option Join) (account : Account) (o m t e : Exchange) → Idles o m
    → m ≡ record t { left = text bytes ∷ t.left } → Names rooms bytes join account t e → Joins rooms join account o e
joins_by rooms bytes join account o m t e i took n = record {
  idles = i.idles;
  arrivals = text bytes ∷ [];
  put = n.put;
  quiet = i.quiet;
  taken = i.taken ∙ ap (λ x. i.idles ++ x.left) took ∙ ap (λ x. i.idles ++ text bytes ∷ x.left) (sym n.out) ∙ sym (append_assoc i.idles (text bytes ∷ []) e.left);
  out = ap (λ x. x.sent) n.out ∙ ap (λ l. l ++ n.put) (sym (ap (λ x. x.sent) took) ∙ i.same);
  named = n.named;
  texts = n.texts;
  sent = n.sent;
  whole = λ none still. absurd (n.shut none still);
}

-- no text came
pub joins_none : (rooms : ℕ) (account : Account) (o e : Exchange) → Idles o e → account.wire ≡ None → account.texts ≡ 0 → account.sent ≡ nothing_sent
    → (IsOpen account → e.left ≡ []) → Joins rooms None account o e
joins_none rooms account o e i wire texts sent whole = record {
  idles = i.idles;
  arrivals = [];
  put = [];
  quiet = i.quiet;
  taken = i.taken ∙ ap (λ l. l ++ e.left) (sym (append-nil i.idles));
  out = i.same ∙ sym (append-nil o.sent);
  named = (refl, wire);
  texts = texts;
  sent = sent;
  whole = λ none still. whole still;
}
