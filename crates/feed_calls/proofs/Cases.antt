-- What a call leaves that feeds a piece or ends a feed, by what its parts ensure: a feed that has ended, a call that is refused, and one that is taken. Assumes
-- nothing.
use Rattle.std.specs.Prelude.{Option, Some, None}
use mathlib.Core.Path.{◌≡◌, ◌∙◌, ap, sym}
use mathlib.Core.Bool.{false, true}
use mathlib.Core.List.{List, [], ◌∷◌}
use Prim.Native.Nat.{ℕ}
use borrow.Author.Tests.{eq-eqb}
use lib.Dec.{eqb}
use lib.IntN.{ℤ}
use lib.ListN.{length}
use Rattle.graphics.proofs.Laws.{and_left}
use Rattle.graphics.specs.declared.GraphicsState.{GraphicsState}
use Rattle.line.specs.World.{Fixed, World, world}
use Rattle.rules.specs.declared.Rules.{Rules}
use Rattle.state_words.specs.Words.{is_state, state_of, state_size, state_words, written}
use Rattle.state_words.proofs.Back.{size_is}
use Rattle.feed_carry.specs.Carry.{detail_of_said, number_of_said}
use Rattle.feed_carry.specs.declared.Fed.{Fed}
use Rattle.feed.specs.Feed.{end_of, feed_of}
use Rattle.feed.specs.Feed.{Left as FeedLeft}
use Rattle.feed.specs.Feed.{left as leaves}
use Rattle.feed_calls.specs.Left.{bad_word, left, refused_call}
use Rattle.feed_calls.specs.Feed.{Carried, Told, carried, fed_of, fed_words, feed_call_of, feed_end_call_of, feed_size, handed_on, is_open_feed, kept, numbers_of, open_call_of, refused_feed, said_before, told}

-- ---- the state and the numbers of a call that is taken
state_left : (words : List ℕ) (s : GraphicsState) → is_state words ≡ true → written s words ≡ state_words s
unfolding written
state_left words s e = rw (eq-eqb (length words) state_size (size_is words e))

feed_left : (feed : List ℕ) (n p k d h : ℕ) → is_open_feed feed ≡ true → fed_words n p k d h feed ≡ n ∷ p ∷ k ∷ d ∷ h ∷ []
unfolding fed_words is_open_feed
feed_left feed n p k d h e = rw (and_left (eqb (length feed) feed_size) (eqb (kept feed 0) 1) e)

-- ---- a piece
module _
    (f : Rules → Fixed) (piece : List ℤ) (words feed : List ℕ) (carry : List ℤ)
    (gx gy : List ℤ) (gflags : List ℕ) (tox toy tx ty : List ℤ) (tflags : List ℕ) (named : Option Rules) (n : ℕ)
  where
    abbrev called : Option Rules → Carried
    called = feed_call_of f piece words feed carry gx gy gflags tox toy tx ty tflags

    abbrev openly : Option Rules → Carried
    openly = open_call_of f piece words feed carry gx gy gflags tox toy tx ty tflags

    pub closed : is_open_feed feed ≡ false → n ≡ said_before feed → carried carry (left n words feed gx gy gflags tox toy tx ty tflags) ≡ called named
    unfolding feed_call_of
    closed shut says = rw shut (ap (λ (m : ℕ). carried carry (left m words feed gx gy gflags tox toy tx ty tflags)) says)

    module _ (goes : is_open_feed feed ≡ true) (feed' : List ℕ) where
      opened : openly named ≡ called named
      unfolding feed_call_of
      opened = rw goes

      refusal : n ≡ bad_word → feed' ≡ refused_feed feed
          → carried carry (left n words feed' gx gy gflags tox toy tx ty tflags) ≡ carried carry (refused_call words (refused_feed feed) gx gy gflags tox toy tx ty tflags)
      refusal number says =
          ap (λ (m : ℕ). carried carry (left m words feed' gx gy gflags tox toy tx ty tflags)) number
          ∙ ap (λ (l : List ℕ). carried carry (left bad_word words l gx gy gflags tox toy tx ty tflags)) says

      pub unnamed : named ≡ None → n ≡ bad_word → feed' ≡ refused_feed feed → carried carry (left n words feed' gx gy gflags tox toy tx ty tflags) ≡ called named
      unfolding open_call_of
      unnamed ruled number says = refusal number says ∙ sym (ap openly ruled) ∙ opened

      not_stated : (rules : Rules) → named ≡ Some rules → is_state words ≡ false → carried carry (refused_call words (refused_feed feed) gx gy gflags tox toy tx ty tflags) ≡ openly named
      unfolding open_call_of
      not_stated rules ruled state = rw (ruled, state)

      pub unstated : (rules : Rules) → named ≡ Some rules → is_state words ≡ false → n ≡ bad_word → feed' ≡ refused_feed feed
          → carried carry (left n words feed' gx gy gflags tox toy tx ty tflags) ≡ called named
      unstated rules ruled state number says = refusal number says ∙ not_stated rules ruled state ∙ opened

      as_fed : (rules : Rules) → named ≡ Some rules → is_state words ≡ true
          → handed_on (feed_of (f rules) (fed_of (state_of words) feed) carry piece (world (state_of words) gx gy gflags tox toy tx ty tflags)) ≡ openly named
      unfolding open_call_of
      as_fed rules ruled state = rw (ruled, state)

      pub taken :
          (rules : Rules) (s : GraphicsState) (c fed : Fed) (words' : List ℕ) (carry' : List ℤ)
          (gx' gy' : List ℤ) (gflags' : List ℕ) (tox' toy' tx' ty' : List ℤ) (tflags' : List ℕ)
          → named ≡ Some rules
          → is_state words ≡ true
          → s ≡ state_of words
          → c ≡ fed_of s feed
          → leaves fed carry' gx' gy' gflags' tox' toy' tx' ty' tflags' ≡ feed_of (f rules) c carry piece (world c.state gx gy gflags tox toy tx ty tflags)
          → n ≡ number_of_said fed.said
          → words' ≡ written fed.state words
          → feed' ≡ fed_words (number_of_said fed.said) fed.base fed.lines (detail_of_said fed.said) fed.held feed
          → carried carry' (left n words' feed' gx' gy' gflags' tox' toy' tx' ty' tflags') ≡ called named
      taken rules s c fed words' carry' gx' gy' gflags' tox' toy' tx' ty' tflags' ruled state reads stands feeds number writes says =
          ap (λ (m : ℕ). carried carry' (left m words' feed' gx' gy' gflags' tox' toy' tx' ty' tflags')) number
          ∙ ap (λ (ws : List ℕ). carried carry' (left (number_of_said fed.said) ws feed' gx' gy' gflags' tox' toy' tx' ty' tflags')) (writes ∙ state_left words fed.state state)
          ∙ ap (λ (l : List ℕ). carried carry' (left (number_of_said fed.said) (state_words fed.state) l gx' gy' gflags' tox' toy' tx' ty' tflags'))
          (says ∙ feed_left feed (number_of_said fed.said) fed.base fed.lines (detail_of_said fed.said) fed.held goes)
          ∙ ap handed_on
          (feeds
          ∙ ap (λ (d : Fed). feed_of (f rules) d carry piece (world d.state gx gy gflags tox toy tx ty tflags)) stands
          ∙ ap (λ (t : GraphicsState). feed_of (f rules) (fed_of t feed) carry piece (world t gx gy gflags tox toy tx ty tflags)) reads)
          ∙ as_fed rules ruled state
          ∙ opened

-- ---- the end
module _ (f : Fixed) (words feed : List ℕ) (carry : List ℤ) (w : GraphicsState → World) (n : ℕ) where
  pub end_closed : is_open_feed feed ≡ false → n ≡ said_before feed → told n feed ≡ feed_end_call_of f words feed carry w
  unfolding feed_end_call_of
  end_closed shut says = rw shut (ap (λ (m : ℕ). told m feed) says)

  module _ (goes : is_open_feed feed ≡ true) (feed' : List ℕ) where
    pub end_unstated : is_state words ≡ false → n ≡ bad_word → feed' ≡ refused_feed feed → told n feed' ≡ feed_end_call_of f words feed carry w
    unfolding feed_end_call_of
    end_unstated state number says = rw (goes, state) (ap (λ (m : ℕ). told m feed') number ∙ ap (told bad_word) says)

    abbrev told_of : FeedLeft → Told
    told_of d = told (number_of_said d.said) (numbers_of d)

    as_ended : is_state words ≡ true → told_of (end_of f (fed_of (state_of words) feed) carry (w (state_of words))) ≡ feed_end_call_of f words feed carry w
    unfolding feed_end_call_of
    as_ended state = rw (goes, state)

    pub end_taken :
        (s : GraphicsState) (c : Fed) (d : FeedLeft)
        → is_state words ≡ true
        → s ≡ state_of words
        → c ≡ fed_of s feed
        → d ≡ end_of f c carry (w c.state)
        → n ≡ number_of_said d.said
        → feed' ≡ fed_words (number_of_said d.said) d.base d.lines (detail_of_said d.said) d.held feed
        → told n feed' ≡ feed_end_call_of f words feed carry w
    end_taken s c d state reads stands ends number says =
        ap (λ (m : ℕ). told m feed') number
        ∙ ap (told (number_of_said d.said)) (says ∙ feed_left feed (number_of_said d.said) d.base d.lines (detail_of_said d.said) d.held goes)
        ∙ ap told_of
        (ends ∙ ap (λ (e : Fed). end_of f e carry (w e.state)) stands ∙ ap (λ (t : GraphicsState). end_of f (fed_of t feed) carry (w t)) reads)
        ∙ as_ended state
