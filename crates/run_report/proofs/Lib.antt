pub mod FirstEvents
pub mod OnTheWay
pub mod LoggedEvents
pub mod MadeAgain
pub mod PutTexts
pub mod PutEnds
