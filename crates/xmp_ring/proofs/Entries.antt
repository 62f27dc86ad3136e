-- Pieces of a stream by recursion on their entries, and what follows from it.
use Rattle.std.proofs.Common.{◌≡◌, Bool, true, false, true≢false, ℕ, zero, suc, List, [], ◌∷◌, ◌++◌, length, map, take, slice_get, Some, inl, inr, ◌⊎◌, refl, sym, ap, ◌∙◌, subst, ⊎_elim}
use Rattle.std.specs.Prelude.{⊤}
use Rattle.std.proofs.lemmas.Option.{none-some, same_Some}
use Rattle.xmp_message.specs.declared.Message.{Message}
use Rattle.xmp_ring.specs.declared.received.Received.{Received}
use Rattle.xmp_ring.specs.declared.received.Received.TheVariants.{Data, Stop}
use Rattle.xmp_ring.specs.Pieces.{End, IsFront, IsPiece, IsStopped, IsNext, IsNextEntry, IsReceived, more}

-- the entries are messages of the stream, and only the last may be the stop word
abbrev pub Part : List Message → List Received → Type 0
Part stream [] = ⊤
Part stream (Stop ∷ []) = ⊤
Part stream (Stop ∷ x ∷ xs) = ⊥
Part [] (Data m ∷ xs) = ⊥
Part (s ∷ stream) (Data m ∷ xs) = (m ≡ s) × Part stream xs

abbrev pub Front : List Message → List Received → Type 0
Front stream [] = ⊤
Front stream (Stop ∷ xs) = ⊥
Front [] (Data m ∷ xs) = ⊥
Front (s ∷ stream) (Data m ∷ xs) = (m ≡ s) × Front stream xs

front-taken : (stream : List Message) (n : ℕ) → Front stream (map Data (take n stream))
front-taken stream zero = tt
front-taken [] (suc n) = tt
front-taken (s ∷ stream) (suc n) = (refl, front-taken stream n)

-- a front, one entry after another
pub front-of : (stream : List Message) (entries : List Received) → IsFront stream entries → Front stream entries
front-of stream entries is = subst (λ (l : List Received). Front stream l) (sym is) (front-taken stream (length entries))

pub is-front : (stream : List Message) (entries : List Received) → Front stream entries → IsFront stream entries
is-front stream [] f = refl
is-front stream (Stop ∷ xs) f = absurd f
is-front [] (Data m ∷ xs) f = absurd f
is-front (s ∷ stream) (Data m ∷ xs) f = ap (λ (a : Message). Data a ∷ xs) f.0 ∙ ap (λ (l : List Received). Data s ∷ l) (is-front stream xs f.1)

front-part : (stream : List Message) (entries : List Received) → Front stream entries → Part stream entries
front-part stream [] f = tt
front-part stream (Stop ∷ xs) f = absurd f
front-part [] (Data m ∷ xs) f = absurd f
front-part (s ∷ stream) (Data m ∷ xs) f = (f.0, front-part stream xs f.1)

stopped-part : (stream : List Message) (entries : List Received) → Front stream entries → Part stream (entries ++ Stop ∷ [])
stopped-part stream [] f = tt
stopped-part stream (Stop ∷ xs) f = absurd f
stopped-part [] (Data m ∷ xs) f = absurd f
stopped-part (s ∷ stream) (Data m ∷ xs) f = (f.0, stopped-part stream xs f.1)

pub part-of : (stream : List Message) (entries : List Received) → IsPiece stream entries → Part stream entries
part-of stream entries (messages, is, way) =
    let f = front-of stream messages is in
    ⊎_elim
    (λ (e : entries ≡ messages). subst (λ (l : List Received). Part stream l) (sym e) (front-part stream messages f))
    (λ (e : entries ≡ messages ++ Stop ∷ []). subst (λ (l : List Received). Part stream l) (sym e) (stopped-part stream messages f))
    way

-- the messages of a part, and whether the stop word stands behind them
abbrev Split : List Message → List Received → Type 0
Split stream entries = (messages : List Received) × Front stream messages × ((entries ≡ messages) ⊎ (entries ≡ messages ++ Stop ∷ []))

split-more : (stream : List Message) (m s : Message) (xs : List Received) → m ≡ s → Split stream xs → Split (s ∷ stream) (Data m ∷ xs)
split-more stream m s xs e (messages, f, way) = (Data m ∷ messages, (e, f), ⊎_elim (λ (p : xs ≡ messages). inl (ap (λ l. Data m ∷ l) p)) (λ (p : xs ≡ messages ++ Stop ∷ []). inr (ap (λ l. Data m ∷ l) p)) way)

split : (stream : List Message) (entries : List Received) → Part stream entries → Split stream entries
split stream [] p = ([], tt, inl refl)
split stream (Stop ∷ []) p = ([], tt, inr refl)
split stream (Stop ∷ x ∷ xs) p = absurd p
split [] (Data m ∷ xs) p = absurd p
split (s ∷ stream) (Data m ∷ xs) p = split-more stream m s xs p.0 (split stream xs p.1)

pub piece-of : (stream : List Message) (entries : List Received) → Part stream entries → IsPiece stream entries
piece-of stream entries p = let (messages, f, way) = split stream entries p in (messages, is-front stream messages f, way)

-- what comes first in a part is one
pub part-first : (stream : List Message) (xs ys : List Received) → Part stream (xs ++ ys) → Part stream xs
part-first stream [] ys p = tt
part-first stream (Stop ∷ []) ys p = tt
part-first stream (Stop ∷ x ∷ xs) ys p = p
part-first [] (Data m ∷ xs) ys p = p
part-first (s ∷ stream) (Data m ∷ xs) ys p = (p.0, part-first stream xs ys p.1)

next-part : (stream : List Message) (entries : List Received) (m : Message) → Front stream entries → slice_get stream (length entries) ≡ Some m → Front stream (entries ++ Data m ∷ [])
next-part [] [] m f next = absurd (none-some m next)
next-part (s ∷ stream) [] m f next = (sym (same_Some s m next), tt)
next-part stream (Stop ∷ xs) m f next = absurd f
next-part [] (Data d ∷ xs) m f next = absurd f
next-part (s ∷ stream) (Data d ∷ xs) m f next = (f.0, next-part stream xs m f.1 next)

-- the next message makes a longer front
pub next-front : (stream : List Message) (entries : List Received) (m : Message) → IsFront stream entries → IsNext stream entries m → IsFront stream (entries ++ Data m ∷ [])
next-front stream entries m is next = is-front stream (entries ++ Data m ∷ []) (next-part stream entries m (front-of stream entries is) next)

-- so with an entry that is the next message
pub next-entry : (stream : List Message) (entries : List Received) (x : Received) → IsFront stream entries → IsNextEntry stream entries x → IsFront stream (entries ++ x ∷ [])
next-entry stream entries (Data m) is next = next-front stream entries m is next
next-entry stream entries Stop is next = absurd next

-- what comes first in a piece is one
pub piece-first : (stream : List Message) (xs ys : List Received) → IsPiece stream (xs ++ ys) → IsPiece stream xs
piece-first stream xs ys is = piece-of stream xs (part-first stream xs ys (part-of stream (xs ++ ys) is))

last-data : (stream : List Message) (entries : List Received) (m : Message) → Part stream (entries ++ Data m ∷ []) → Front stream entries × (slice_get stream (length entries) ≡ Some m)
last-data [] [] m p = absurd p
last-data (s ∷ stream) [] m p = (tt, ap Some (sym p.0))
last-data stream (Stop ∷ []) m p = absurd p
last-data stream (Stop ∷ x ∷ xs) m p = absurd p
last-data [] (Data d ∷ xs) m p = absurd p
last-data (s ∷ stream) (Data d ∷ xs) m p = let (f, e) = last-data stream xs m p.1 in ((p.0, f), e)

last-stop : (stream : List Message) (entries : List Received) → Part stream (entries ++ Stop ∷ []) → Front stream entries
last-stop stream [] p = tt
last-stop stream (Stop ∷ []) p = absurd p
last-stop stream (Stop ∷ x ∷ xs) p = absurd p
last-stop [] (Data d ∷ xs) p = absurd p
last-stop (s ∷ stream) (Data d ∷ xs) p = (p.0, last-stop stream xs p.1)

-- what was taken behind the entries of an end, with which they are a piece, is received
pub taken-received : (stream : List Message) (old : End) (x : Received) → IsPiece stream (old.entries ++ x ∷ []) → IsReceived stream old x (more old x)
taken-received stream old (Data m) is =
    let (f, next) = last-data stream old.entries m (part-of stream (old.entries ++ Data m ∷ []) is) in
    (refl, is-front stream old.entries f, next)
taken-received stream old Stop is =
    let f = last-stop stream old.entries (part-of stream (old.entries ++ Stop ∷ []) is) in
    inl (refl, is-front stream old.entries f)

stopped-no-front : (stream : List Message) (before : List Received) → Front stream (before ++ Stop ∷ []) → ⊥
stopped-no-front stream [] f = f
stopped-no-front stream (Stop ∷ xs) f = f
stopped-no-front [] (Data d ∷ xs) f = f
stopped-no-front (s ∷ stream) (Data d ∷ xs) f = stopped-no-front stream xs f.1

-- no front ends in the stop word
pub no-front : (stream : List Message) (entries : List Received) → IsStopped entries → IsFront stream entries → ⊥
no-front stream entries (before, e) is =
    stopped-no-front stream before (subst (λ (l : List Received). Front stream l) e (front-of stream entries is))

pub stays-stopped : (stream : List Message) (old new : End) (answer : Received) → IsStopped old.entries → IsReceived stream old answer new → (answer ≡ Stop) × (new ≡ old)
stays-stopped stream old new (Data m) s r = absurd (no-front stream old.entries s r.1)
stays-stopped stream old new Stop s r = (refl, ⊎_elim (λ (x : (new ≡ more old Stop) × IsFront stream old.entries). absurd (no-front stream old.entries s x.1)) (λ (x : (new ≡ old) × IsStopped old.entries). x.0) r)

-- the same of an end that is equal, and of what it became
pub received-there : (streams : ℕ → List Message) (old now new : End) (x : Received) → now ≡ old → (new ≡ more now x) × IsPiece (streams now.ring) (now.entries ++ x ∷ []) → IsReceived (streams old.ring) old x new
received-there streams old now new x same (e, is) =
    let F : End → Type 0 = λ o. IsReceived (streams o.ring) o x (more o x) in
    let G : End → Type 0 = λ n. IsReceived (streams old.ring) old x n in
    subst G (sym (e ∙ ap (λ o. more o x) same)) (subst F same (taken-received (streams now.ring) now x is))

-- the message behind those that were sent is the next
pub next-behind : (sent rest : List Message) (m : Message) → IsNext (sent ++ m ∷ rest) (map Data sent) m
next-behind [] rest m = refl
next-behind (x ∷ sent) rest m = next-behind sent rest m

abbrev is_stop : Received → Bool
is_stop (Data m) = false
is_stop Stop = true

-- whether the last entry is the stop word
abbrev last_is_stop : List Received → Bool
last_is_stop [] = false
last_is_stop (x ∷ []) = is_stop x
last_is_stop (x ∷ y ∷ ys) = last_is_stop (y ∷ ys)

last_behind : (xs : List Received) (x : Received) → last_is_stop (xs ++ x ∷ []) ≡ is_stop x
last_behind [] x = refl
last_behind (y ∷ []) x = refl
last_behind (y ∷ z ∷ zs) x = last_behind (z ∷ zs) x

stopped_last : (entries : List Received) → IsStopped entries → last_is_stop entries ≡ true
stopped_last entries (before, e) = ap last_is_stop e ∙ last_behind before Stop

-- where a message stands last, the stop word doesn't
pub message_not_last : (entries : List Received) (m : Message) → IsStopped (entries ++ Data m ∷ []) → ⊥
message_not_last entries m stopped = true≢false (sym (stopped_last _ stopped) ∙ last_behind entries (Data m))

-- the stop word last
pub stop_last : (entries : List Received) → IsStopped (entries ++ Stop ∷ [])
stop_last entries = (entries, refl)

-- an end that has no entry hasn't stopped
pub none_not_stopped : IsStopped [] → ⊥
none_not_stopped stopped = true≢false (sym (stopped_last [] stopped))
