pub mod OneAnswers
